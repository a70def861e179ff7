-- The laws of bytes that are put down in a lent buffer.
use mathlib.Core.Path.{◌≡◌, refl, sym, ap, ◌∙◌}
use mathlib.Core.List.{List, [], ◌∷◌, ◌++◌, map, append_assoc, append-nil}
use Prim.Native.Nat.{ℕ, zero, suc, ◌+◌, ◌≤◌, ◌<◌}
use native.Mathlib.Nat.{mul-le-mul_left, mul-suc}
use native.Mathlib.Omega.{arith}
use native.Mathlib.Numerals.{add-one}
use lib.ListN.{length, get_or, take, drop, length-append}
use lib.Seq.{take_all, drop-cons}
use Rattle.std.proofs.lemmas.List.{get_or-map}
use Rattle.little_endian.specs.LittleEndian.{bytes_of}
use Rattle.little_endian.specs.Runs.{run}
use Rattle.little_endian.proofs.LittleEndian.{length_bytes_of}
use Rattle.little_endian.proofs.Runs.{run_none, run_more, length_run}
use Rattle.little_endian.proofs.Wrote.{wrote_none, wrote_then, wrote_length}
use Rattle.whole.specs.Table.{table}
use Rattle.whole.proofs.Table.{length_table, table_at}
use Rattle.records.specs.Record.{Rec, record_bytes, file_bytes}
use Rattle.records.proofs.Records.{file_more, file_append}
use Rattle.planfile.specs.Groups.{Group, none, laid}
use Rattle.planfile.specs.Rows.{rec}
use Rattle.writer.specs.declared.Pen.{Pen}
use Rattle.writer.specs.Put.{Free, Put}

pub put_none : (p : Pen) → Put p p []
put_none p = record { same = refl; wrote = wrote_none _ _ }

-- one after the other
pub put_then : {p q r : Pen} {u v : List ℕ} → Put p q u → Put q r v → Put p r (u ++ v)
put_then a b = record { same = b.same ∙ a.same; wrote = wrote_then a.wrote b.wrote }

-- the same bytes by another name
pub put_as : {p q : Pen} {u v : List ℕ} → u ≡ v → Put p q u → Put p q v
put_as e a = rw (← e) a

pub free_as : {p : Pen} {u v : List ℕ} → u ≡ v → Free p u → Free p v
free_as e a = rw (← e) a

-- there is room for bytes of which the first part is put down, and then for the rest
pub free_first : {p : Pen} {u : List ℕ} (v : List ℕ) → Free p (u ++ v) → Free p u
free_first {u = u} v f = record { fits = omega (arith, f.fits, length-append u v) }

pub free_rest : {p q : Pen} {u v : List ℕ} → Put p q u → Free p (u ++ v) → Free q v
free_rest {u = u} {v = v} a f = record { fits = omega (arith, f.fits, a.wrote.next, wrote_length a.wrote, length-append u v) }

-- ---- numbers of w bytes each: n are to be put down, from the pen p on, and k of them are
pub record Numbered (w n : ℕ) (f : ℕ → ℕ) (p q : Pen) (k : ℕ) : Type 0 where
  pub free : Free p (run w n f)
  pub few : k ≤ n
  pub put : Put p q (run w k f)

module _ {w n : ℕ} {f : ℕ → ℕ} {p : Pen} where
  pub numbered_none : Free p (run w n f) → Numbered w n f p p 0
  numbered_none h = record { free = h; few = omega arith; put = put_as (sym (run_none w f)) (put_none p) }

  module _ {q : Pen} {k : ℕ} (s : Numbered w n f p q k) where
    pub numbered_free : k < n → Free q (bytes_of w (f k))
    numbered_free h = record {
      fits = omega (
        arith,
        s.free.fits,
        s.put.wrote.next,
        wrote_length s.put.wrote,
        length_run w n f,
        length_run w k f,
        length_bytes_of w (f k),
        mul-le-mul_left w h,
        mul-suc w k,
      );
    }

    pub numbered_more : {r : Pen} → k < n → Put q r (bytes_of w (f k)) → Numbered w n f p r (k + 1)
    numbered_more h a = record { free = s.free; few = omega arith; put = put_as (sym (run_more w k f)) (put_then s.put a) }

    pub numbered_all : n ≤ k → Put p q (run w n f)
    numbered_all h = let e : k ≡ n = omega (arith, s.few) in rw (← e) s.put

-- what number i of a list is
pub number_is : {A : Type 0} (bits : A → ℕ) (xs : List A) {i : ℕ} {x : A} → i < length xs → x ≡ get_or xs i x → get_or (map bits xs) i 0 ≡ bits x
number_is bits xs {i} {x} h e = get_or-map bits xs i x 0 h ∙ ap bits (sym e)

-- ---- a record: its front, and then its body
module _ (kind size : ℕ) (body : List ℕ) (e : size ≡ length body) where
  abbrev pub front : List ℕ
  front = bytes_of 2 size ++ bytes_of 2 kind

  record_parts : record_bytes (rec kind body) ≡ front ++ body
  unfolding record_bytes
  record_parts = rw e (sym (append_assoc (bytes_of 2 (length body)) (bytes_of 2 kind) body))

  pub free_front : {p : Pen} → Free p (record_bytes (rec kind body)) → Free p front
  free_front f = free_first body (free_as record_parts f)

  module _ {p q : Pen} (a : Put p q front) where
    pub free_body : Free p (record_bytes (rec kind body)) → Free q body
    free_body f = free_rest a (free_as record_parts f)

    pub put_record : {r : Pen} → Put q r body → Put p r (record_bytes (rec kind body))
    put_record b = put_as (sym record_parts) (put_then a b)

-- ---- n records f are to be put down, from the pen p on, and k of them are
pub record Recorded (n : ℕ) (f : ℕ → Rec) (p q : Pen) (k : ℕ) : Type 0 where
  pub put : Put p q (file_bytes (take k (table n n f none)))
  pub free : Free q (file_bytes (drop k (table n n f none)))

module _ (n : ℕ) (f : ℕ → Rec) where
  abbrev recs : List Rec
  recs = table n n f none

  many : length recs ≡ n
  many = length_table n n f none (omega arith)

module _ {n : ℕ} {f : ℕ → Rec} {p : Pen} where
  pub recorded_none : Free p (file_bytes (recs n f)) → Recorded n f p p 0
  unfolding file_bytes
  recorded_none h = record { put = put_none p; free = h }

  module _ {q : Pen} {k : ℕ} (s : Recorded n f p q k) where
    pub recorded_all : n ≤ k → Put p q (file_bytes (recs n f))
    recorded_all h = put_as (ap file_bytes (take_all k (recs n f) (omega (arith, many n f)))) s.put

    module _ (h : k < n) where
      inside : k < length (recs n f)
      inside = omega (arith, many n f)

      here : get_or (recs n f) k none ≡ f k
      here = table_at n n f none none k h (omega arith)

      rest : file_bytes (drop k (recs n f)) ≡ record_bytes (f k) ++ file_bytes (drop (k + 1) (recs n f))
      unfolding file_bytes
      rest = rw (add-one, drop-cons (recs n f) k none inside, here)

      pub recorded_free : Free q (record_bytes (f k))
      recorded_free = free_first (file_bytes (drop (k + 1) (recs n f))) (free_as rest s.free)

      pub recorded_more : {q' : Pen} → Put q q' (record_bytes (f k)) → Recorded n f p q' (k + 1)
      recorded_more a = record {
        put = put_as (sym (file_more (recs n f) none k inside ∙ ap (λ (r : Rec). file_bytes (take k (recs n f)) ++ record_bytes r) here)) (put_then s.put a);
        free = free_rest a (free_as rest s.free);
      }

-- ---- the records f of groups are to be put down, from the pen p on, and those of k groups are
pub record Grouped (gs : List Group) (f : (role j : ℕ) → Rec) (p q : Pen) (k : ℕ) : Type 0 where
  pub put : Put p q (file_bytes (laid (take k gs) f))
  pub free : Free q (file_bytes (laid (drop k gs) f))

module _ (f : (role j : ℕ) → Rec) where
  abbrev pub group_bytes : Group → List ℕ
  group_bytes g = file_bytes (table g.count g.count (f g.role) none)

  before : (gs : List Group) (d : Group) (k : ℕ) → k < length gs → file_bytes (laid (take (suc k) gs) f) ≡ file_bytes (laid (take k gs) f) ++ group_bytes (get_or gs k d)
  unfolding laid file_bytes
  before [] d k h = absurd (omega arith)
  before (g ∷ gs) d zero h = file_append (table g.count g.count (f g.role) none) [] ∙ append-nil (group_bytes g)
  before (g ∷ gs) d (suc k) h =
      let first = table g.count g.count (f g.role) none in
      file_append first (laid (take (suc k) gs) f)
      ∙ ap (λ (s : List ℕ). group_bytes g ++ s) (before gs d k (omega arith))
      ∙ sym (append_assoc (group_bytes g) (file_bytes (laid (take k gs) f)) (group_bytes (get_or gs k d)))
      ∙ ap (λ (s : List ℕ). s ++ group_bytes (get_or gs k d)) (sym (file_append first (laid (take k gs) f)))

  after : (gs : List Group) (d : Group) (k : ℕ) → k < length gs → file_bytes (laid (drop k gs) f) ≡ group_bytes (get_or gs k d) ++ file_bytes (laid (drop (k + 1) gs) f)
  unfolding laid
  after gs d k h = rw (add-one, drop-cons gs k d h) (file_append (table (get_or gs k d).count (get_or gs k d).count (f (get_or gs k d).role) none) (laid (drop (suc k) gs) f))

module _ {gs : List Group} {f : (role j : ℕ) → Rec} {p : Pen} where
  pub grouped_none : Free p (file_bytes (laid gs f)) → Grouped gs f p p 0
  unfolding laid file_bytes
  grouped_none h = record { put = put_none p; free = h }

  module _ {q : Pen} {k : ℕ} (s : Grouped gs f p q k) where
    pub grouped_all : length gs ≤ k → Put p q (file_bytes (laid gs f))
    grouped_all h = put_as (ap (λ (gs : List Group). file_bytes (laid gs f)) (take_all k gs h)) s.put

    -- the next group
    module _ {g : Group} (here : get_or gs k g ≡ g) (h : k < length gs) where
      pub grouped_free : Free q (group_bytes f g)
      grouped_free = free_first _ (free_as (after f gs g k h ∙ ap (λ (x : Group). group_bytes f x ++ file_bytes (laid (drop (k + 1) gs) f)) here) s.free)

      pub grouped_more : {q' : Pen} → Put q q' (group_bytes f g) → Grouped gs f p q' (k + 1)
      grouped_more a = record {
        put = put_as
            (ap (λ (x : Group). file_bytes (laid (take k gs) f) ++ group_bytes f x) (sym here) ∙ sym (before f gs g k h) ∙ ap (λ (n : ℕ). file_bytes (laid (take n gs) f)) (sym (add-one k)))
            (put_then s.put a);
        free = free_rest a (free_as (after f gs g k h ∙ ap (λ (x : Group). group_bytes f x ++ file_bytes (laid (drop (k + 1) gs) f)) here) s.free);
      }

-- the bytes of one record
pub file_one : (r : Rec) → file_bytes (r ∷ []) ≡ record_bytes r
unfolding file_bytes
file_one r = append-nil (record_bytes r)
