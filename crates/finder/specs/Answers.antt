-- The papers' answer of the call: its refusal, whether an allocation is found, and its shares; zeros where none is.
use Rattle.std.specs.Prelude.{Bool, List, ℕ}

pub record FindAnswer : Type 0 where
  pub refusal : ℕ
  pub found : Bool
  pub shares : List ℕ
