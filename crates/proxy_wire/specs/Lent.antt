-- A call of a function to which a slice is lent.
use Rattle.std.specs.Prelude.{List, ◌≡◌}
use denote.Param.Members.{Shared}
use denote.Ref.{MutBor}

module _ {F V A : Type 0} (g : Shared F (MutBor (List V) × Unit {0}) (A × (MutBor (List V) × Unit {0}))) (f : F) where
  -- f may be called with a `&mut` to these
  abbrev pub AcceptsLent : List V → Type 0
  AcceptsLent old = (p : MutBor (List V)) → p.now ≡ old → g.pre f (p, tt)

  -- a call of f with a `&mut` to these may give this result and leave those
  pub record LeavesLent (old : List V) (result : A) (new : List V) : Type 0 where
    pub argument : MutBor (List V)
    pub argument_is : argument.now ≡ old
    pub after_call : MutBor (List V)
    pub call : g.post f (argument, tt) (result, (after_call, tt))
    pub left : after_call.now ≡ new
