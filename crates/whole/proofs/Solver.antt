-- A ring solver by reflection: an equation of ℤ is quoted, each side is computed to its normal form, and `refl` compares the two.
--
-- `ring 3 (λ a b c. a ⊗ (b ⊕ c) ≈ a ⊗ b ⊕ a ⊗ c) refl x y z` is x *ℤ (y +ℤ z) ≡ x *ℤ y +ℤ x *ℤ z; `! k` quotes a literal.
use mathlib.Core.Path.{◌≡◌, refl, sym, ap, ◌∙◌}
use mathlib.Core.Bool.{Bool, true, false}
use mathlib.Core.List.{List, [], ◌∷◌}
use Prim.Native.Nat.{ℕ, zero, suc, compare, Ordering}
use native.Mathlib.Omega.{arith}
use lib.Dec.{T, leb, compare_is_eq, eqb→eq}
use lib.ListN.{get_or}
use lib.IntN.{ℤ, pos, negsuc, neg_ℤ, ◌+ℤ◌, ◌-ℤ◌, ◌*ℤ◌}
use Rattle.whole.proofs.Bridge.{same, Exp, #, ◌⊕◌, ◌⊖◌, ◌⊗◌, ⊝}
use Rattle.whole.proofs.Laws.{*ℤ_assoc, *ℤ_left_comm, *ℤ_swap, *ℤ_dist_l, one_*ℤ, +ℤ_left_comm}

-- a leaf: a literal, or the variable of that number
pub data Leaf : Type 0 where
  lit : ℤ → Leaf
  var : ℕ → Leaf

abbrev pub Quote : Type 0
Quote = Exp Leaf

-- what a quote stands for, where ρ has the variables' values
abbrev leaf : List ℤ → Leaf → ℤ
leaf ρ (lit k) = k
leaf ρ (var i) = get_or ρ i (pos 0)

abbrev pub ev : List ℤ → Quote → ℤ
ev ρ (# l) = leaf ρ l
ev ρ (e ⊕ f) = ev ρ e +ℤ ev ρ f
ev ρ (e ⊖ f) = ev ρ e -ℤ ev ρ f
ev ρ (e ⊗ f) = ev ρ e *ℤ ev ρ f
ev ρ (⊝ e) = neg_ℤ (ev ρ e)

-- ---- normal forms: a monomial is the sorted list of its variables, a polynomial the sorted list of its terms
pub data Poly : Type 0 where
  nil : Poly
  term : ℤ → List ℕ → Poly → Poly

abbrev cmp : List ℕ → List ℕ → Ordering
cmp [] [] = Ordering.eq
cmp [] (j ∷ n) = Ordering.gt
cmp (i ∷ m) [] = Ordering.lt
cmp (i ∷ m) (j ∷ n) = elim (compare i j) [ Ordering.lt ↦ Ordering.lt | Ordering.eq ↦ cmp m n | Ordering.gt ↦ Ordering.gt ]

abbrev ins_M : ℕ → List ℕ → List ℕ
ins_M i [] = i ∷ []
ins_M i (j ∷ m) = elim (leb i j) [ true ↦ i ∷ j ∷ m | false ↦ j ∷ ins_M i m ]

abbrev mul_M : List ℕ → List ℕ → List ℕ
mul_M [] n = n
mul_M (i ∷ m) n = ins_M i (mul_M m n)

-- a term of coefficient 0 is left out
abbrev put : ℤ → List ℕ → Poly → Poly
put (pos zero) m p = p
put (pos (suc k)) m p = term (pos (suc k)) m p
put (negsuc k) m p = term (negsuc k) m p

-- one term and then what `rest` adds, merged with a polynomial
abbrev add_T : ℤ → List ℕ → (Poly → Poly) → Poly → Poly
add_T c m rest nil = put c m (rest nil)
add_T c m rest (term d n q) = elim (cmp m n) [ Ordering.lt ↦ put c m (rest (term d n q)) | Ordering.eq ↦ put (c +ℤ d) n (rest q) | Ordering.gt ↦ term d n (add_T c m rest q) ]

abbrev add_P : Poly → Poly → Poly
add_P nil q = q
add_P (term c m p) q = add_T c m (add_P p) q

-- a product keeps the order of monomials
abbrev mul_T : ℤ → List ℕ → Poly → Poly
mul_T c m nil = nil
mul_T c m (term d n p) = put (c *ℤ d) (mul_M m n) (mul_T c m p)

abbrev mul_P : Poly → Poly → Poly
mul_P nil q = nil
mul_P (term c m p) q = add_P (mul_T c m q) (mul_P p q)

abbrev leaf_P : Leaf → Poly
leaf_P (lit k) = put k [] nil
leaf_P (var i) = term (pos 1) (i ∷ []) nil

abbrev pub norm : Quote → Poly
norm (# l) = leaf_P l
norm (e ⊕ f) = add_P (norm e) (norm f)
norm (e ⊖ f) = add_P (norm e) (mul_T (negsuc 0) [] (norm f))
norm (e ⊗ f) = mul_P (norm e) (norm f)
norm (⊝ e) = mul_T (negsuc 0) [] (norm e)

-- ---- soundness: a quote and its normal form stand for the same number
abbrev ev_M : List ℤ → List ℕ → ℤ
ev_M ρ [] = pos 1
ev_M ρ (i ∷ m) = get_or ρ i (pos 0) *ℤ ev_M ρ m

abbrev ev_P : List ℤ → Poly → ℤ
ev_P ρ nil = pos 0
ev_P ρ (term c m p) = c *ℤ ev_M ρ m +ℤ ev_P ρ p

is_eq : (o : Ordering) → o ≡ Ordering.eq → T (compare_is_eq o)
is_eq o e = rw e tt

cmp_eq : (m n : List ℕ) → cmp m n ≡ Ordering.eq → m ≡ n
cmp_eq [] [] e = refl
cmp_eq [] (j ∷ n) e = cc
cmp_eq (i ∷ m) [] e = cc
cmp_eq (i ∷ m) (j ∷ n) e = go (compare i j) refl e (cmp_eq m n)
  where
    go : (o : Ordering) → compare i j ≡ o → (elim o [ Ordering.lt ↦ Ordering.lt | Ordering.eq ↦ cmp m n | Ordering.gt ↦ Ordering.gt ]) ≡ Ordering.eq → (cmp m n ≡ Ordering.eq → m ≡ n) → ◌≡◌ {A = List ℕ} (i ∷ m) (j ∷ n)
    go Ordering.lt p q ih = cc
    go Ordering.eq p q ih = cc (eqb→eq i j (is_eq (compare i j) p), ih q)
    go Ordering.gt p q ih = cc

module _ (ρ : List ℤ) where
  ev_ins_M : (i : ℕ) (m : List ℕ) → ev_M ρ (ins_M i m) ≡ get_or ρ i (pos 0) *ℤ ev_M ρ m
  ev_ins_M i [] = refl
  ev_ins_M i (j ∷ m) = go (leb i j) (ev_ins_M i m)
    where
      go : (b : Bool) → ev_M ρ (ins_M i m) ≡ get_or ρ i (pos 0) *ℤ ev_M ρ m → ev_M ρ (elim b [ true ↦ i ∷ j ∷ m | false ↦ j ∷ ins_M i m ]) ≡ get_or ρ i (pos 0) *ℤ (get_or ρ j (pos 0) *ℤ ev_M ρ m)
      go true ih = refl
      go false ih = ap (λ (z : ℤ). get_or ρ j (pos 0) *ℤ z) ih ∙ *ℤ_left_comm (get_or ρ j (pos 0)) (get_or ρ i (pos 0)) (ev_M ρ m)

  ev_mul_M : (m n : List ℕ) → ev_M ρ (mul_M m n) ≡ ev_M ρ m *ℤ ev_M ρ n
  ev_mul_M [] n = sym (one_*ℤ (ev_M ρ n))
  ev_mul_M (i ∷ m) n = ev_ins_M i (mul_M m n) ∙ ap (λ (z : ℤ). get_or ρ i (pos 0) *ℤ z) (ev_mul_M m n) ∙ sym (*ℤ_assoc (get_or ρ i (pos 0)) (ev_M ρ m) (ev_M ρ n))

  ev_put : (c : ℤ) (m : List ℕ) (p : Poly) → ev_P ρ (put c m p) ≡ c *ℤ ev_M ρ m +ℤ ev_P ρ p
  ev_put (pos zero) m p = same (# (ev_P ρ p)) (# (pos 0) ⊗ # (ev_M ρ m) ⊕ # (ev_P ρ p)) (omega arith)
  ev_put (pos (suc k)) m p = refl
  ev_put (negsuc k) m p = refl

  assoc : (a b c : ℤ) → a +ℤ (b +ℤ c) ≡ (a +ℤ b) +ℤ c
  assoc a b c = same (# a ⊕ (# b ⊕ # c)) (# a ⊕ # b ⊕ # c) (omega arith)

  add_same : (c d x y p q : ℤ) → x ≡ y → (c +ℤ d) *ℤ y +ℤ (p +ℤ q) ≡ (c *ℤ x +ℤ p) +ℤ (d *ℤ y +ℤ q)
  add_same c d x y p q e = rw e (same ((# c ⊕ # d) ⊗ # y ⊕ (# p ⊕ # q)) (# c ⊗ # y ⊕ # p ⊕ (# d ⊗ # y ⊕ # q)) (omega arith))

  ev_add_T : (c : ℤ) (m : List ℕ) (rest : Poly → Poly) (x : ℤ) → ((q : Poly) → ev_P ρ (rest q) ≡ x +ℤ ev_P ρ q) → (q : Poly) → ev_P ρ (add_T c m rest q) ≡ (c *ℤ ev_M ρ m +ℤ x) +ℤ ev_P ρ q
  ev_add_T c m rest x h nil = ev_put c m (rest nil) ∙ ap (λ (z : ℤ). c *ℤ ev_M ρ m +ℤ z) (h nil) ∙ assoc (c *ℤ ev_M ρ m) x (pos 0)
  ev_add_T c m rest x h (term d n q) = go (cmp m n) refl (ev_add_T c m rest x h q)
    where
      go : (o : Ordering) → cmp m n ≡ o → ev_P ρ (add_T c m rest q) ≡ (c *ℤ ev_M ρ m +ℤ x) +ℤ ev_P ρ q → ev_P ρ (elim o [ Ordering.lt ↦ put c m (rest (term d n q)) | Ordering.eq ↦ put (c +ℤ d) n (rest q) | Ordering.gt ↦ term d n (add_T c m rest q) ]) ≡ (c *ℤ ev_M ρ m +ℤ x) +ℤ (d *ℤ ev_M ρ n +ℤ ev_P ρ q)
      go Ordering.lt e ih = ev_put c m (rest (term d n q)) ∙ ap (λ (z : ℤ). c *ℤ ev_M ρ m +ℤ z) (h (term d n q)) ∙ assoc (c *ℤ ev_M ρ m) x (d *ℤ ev_M ρ n +ℤ ev_P ρ q)
      go Ordering.eq e ih = ev_put (c +ℤ d) n (rest q) ∙ ap (λ (z : ℤ). (c +ℤ d) *ℤ ev_M ρ n +ℤ z) (h q) ∙ add_same c d (ev_M ρ m) (ev_M ρ n) x (ev_P ρ q) (ap (ev_M ρ) (cmp_eq m n e))
      go Ordering.gt e ih = ap (λ (z : ℤ). d *ℤ ev_M ρ n +ℤ z) ih ∙ +ℤ_left_comm (d *ℤ ev_M ρ n) (c *ℤ ev_M ρ m +ℤ x) (ev_P ρ q)

  ev_add_P : (p q : Poly) → ev_P ρ (add_P p q) ≡ ev_P ρ p +ℤ ev_P ρ q
  ev_add_P nil q = same (# (ev_P ρ q)) (# (pos 0) ⊕ # (ev_P ρ q)) (omega arith)
  ev_add_P (term c m p) q = ev_add_T c m (add_P p) (ev_P ρ p) (ev_add_P p) q

  mul_out : (c d x y z : ℤ) → c *ℤ d *ℤ (x *ℤ y) +ℤ c *ℤ x *ℤ z ≡ c *ℤ x *ℤ (d *ℤ y +ℤ z)
  mul_out c d x y z = rw (*ℤ_swap c d x y) (sym (*ℤ_dist_l (c *ℤ x) (d *ℤ y) z))

  ev_mul_T : (c : ℤ) (m : List ℕ) (p : Poly) → ev_P ρ (mul_T c m p) ≡ c *ℤ ev_M ρ m *ℤ ev_P ρ p
  ev_mul_T c m nil = same (# (pos 0)) (# c ⊗ # (ev_M ρ m) ⊗ # (pos 0)) (omega arith)
  ev_mul_T c m (term d n p) = ev_put (c *ℤ d) (mul_M m n) (mul_T c m p) ∙ rw (ev_mul_M m n, ev_mul_T c m p) (mul_out c d (ev_M ρ m) (ev_M ρ n) (ev_P ρ p))

  ev_mul_P : (p q : Poly) → ev_P ρ (mul_P p q) ≡ ev_P ρ p *ℤ ev_P ρ q
  ev_mul_P nil q = same (# (pos 0)) (# (pos 0) ⊗ # (ev_P ρ q)) (omega arith)
  ev_mul_P (term c m p) q = ev_add_P (mul_T c m q) (mul_P p q) ∙ rw (ev_mul_T c m q, ev_mul_P p q) (same (# c ⊗ # (ev_M ρ m) ⊗ # (ev_P ρ q) ⊕ # (ev_P ρ p) ⊗ # (ev_P ρ q)) ((# c ⊗ # (ev_M ρ m) ⊕ # (ev_P ρ p)) ⊗ # (ev_P ρ q)) (omega arith))

  ev_leaf_P : (l : Leaf) → ev_P ρ (leaf_P l) ≡ leaf ρ l
  ev_leaf_P (lit k) = ev_put k [] nil ∙ same (# k ⊗ # (pos 1) ⊕ # (pos 0)) (# k) (omega arith)
  ev_leaf_P (var i) = same (# (pos 1) ⊗ (# (get_or ρ i (pos 0)) ⊗ # (pos 1)) ⊕ # (pos 0)) (# (get_or ρ i (pos 0))) (omega arith)

  neg_out : (x : ℤ) → negsuc 0 *ℤ pos 1 *ℤ x ≡ neg_ℤ x
  neg_out x = same (# (negsuc 0) ⊗ # (pos 1) ⊗ # x) (⊝ (# x)) (omega arith)

  ev_norm : (e : Quote) → ev_P ρ (norm e) ≡ ev ρ e
  ev_norm (# l) = ev_leaf_P l
  ev_norm (e ⊕ f) = ev_add_P (norm e) (norm f) ∙ rw (ev_norm e, ev_norm f)
  ev_norm (e ⊖ f) = ev_add_P (norm e) (mul_T (negsuc 0) [] (norm f)) ∙ rw (ev_norm e, ev_mul_T (negsuc 0) [] (norm f), ev_norm f) (ap (λ (z : ℤ). ev ρ e +ℤ z) (neg_out (ev ρ f)))
  ev_norm (e ⊗ f) = ev_mul_P (norm e) (norm f) ∙ rw (ev_norm e, ev_norm f)
  ev_norm (⊝ e) = ev_mul_T (negsuc 0) [] (norm e) ∙ rw (ev_norm e) (neg_out (ev ρ e))

  pub solve : (e f : Quote) → norm e ≡ norm f → ev ρ e ≡ ev ρ f
  solve e f h = sym (ev_norm e) ∙ ap (ev_P ρ) h ∙ ev_norm f

-- ---- the solver, as it is called
infix 50 ◌≈◌
pub data Eqn : Type 0 where
  ◌≈◌ : Quote → Quote → Eqn

abbrev pub ! : ℤ → Quote
! k = # (lit k)

abbrev pub Checks : Eqn → Type 0
Checks (e ≈ f) = norm e ≡ norm f

abbrev pub Says : List ℤ → Eqn → Type 0
Says ρ (e ≈ f) = ev ρ e ≡ ev ρ f

-- an equation over n quotes, and it at the variables k, k + 1, ..
abbrev pub Over : ℕ → Type 0
Over zero = Eqn
Over (suc n) = Quote → Over n

abbrev pub fill : (n k : ℕ) → Over n → Eqn
fill zero k q = q
fill (suc n) k q = fill n (suc k) (q (# (var k)))

-- it holds of any n numbers, behind those that `front` has already
abbrev pub ForAll : ℕ → (List ℤ → List ℤ) → Eqn → Type 0
ForAll zero front q = Says (front []) q
ForAll (suc n) front q = (a : ℤ) → ForAll n (λ rest. front (a ∷ rest)) q

for_all : (n : ℕ) (front : List ℤ → List ℤ) (q : Eqn) → Checks q → ForAll n front q
for_all zero front (e ≈ f) h = solve (front []) e f h
for_all (suc n) front q h = λ a. for_all n (λ rest. front (a ∷ rest)) q h

pub ring : (n : ℕ) (q : Over n) → Checks (fill n 0 q) → ForAll n (λ rest. rest) (fill n 0 q)
ring n q h = for_all n (λ rest. rest) (fill n 0 q) h
