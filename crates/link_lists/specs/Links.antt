-- The links of the nodes.
use Rattle.std.specs.Prelude.{List, [], ◌∷◌, cond}
use denote.RawPtr.{Ptr}
use Rattle.link_lists.specs.Places.{same_ptr}
use Rattle.link_lists.specs.Cells.{Cell}
use Rattle.link_lists.specs.declared.member.Member.{Member}

module _ {A V : Type 0} where
  -- the cells, with f of its value at p
  unfoldable pub change : Ptr → (V → V) → List (Cell A V) → List (Cell A V)
  change p f [] = []
  change p f (c ∷ cs) = cond (same_ptr p c.0) ((c.0, (c.1.0, f c.1.1)) ∷ cs) (c ∷ change p f cs)

module _ {A T : Type 0} where
  abbrev pub next_to : Ptr → Ptr → List (Cell A (Member T)) → List (Cell A (Member T))
  next_to p q = change p (λ n. record n { next = record { ptr = q } })

  abbrev pub prev_to : Ptr → Ptr → List (Cell A (Member T)) → List (Cell A (Member T))
  prev_to p q = change p (λ n. record n { prev = record { ptr = q } })

  abbrev pub link_to : Ptr → Ptr → Ptr → List (Cell A (Member T)) → List (Cell A (Member T))
  link_to p a b = change p (λ n. record n { prev = record { ptr = a }; next = record { ptr = b } })

  -- a and b become neighbours
  abbrev pub joined : Ptr → Ptr → List (Cell A (Member T)) → List (Cell A (Member T))
  joined a b cs = prev_to b a (next_to a b cs)

  -- p comes between a and b
  abbrev pub inserted : Ptr → Ptr → Ptr → List (Cell A (Member T)) → List (Cell A (Member T))
  inserted a p b cs = prev_to b p (link_to p a b (next_to a p cs))
