-- A node comes to the end of a ring with another value.
use Rattle.std.proofs.Common.{◌≡◌, ℕ, ◌<◌, true, List, length, slice_index_or, ◌∙◌}
use Rattle.std.specs.Prelude.{⊤}
use denote.RawPtr.{Ptr}
use Rattle.link_lists.specs.Cells.{Cell, IsIn}
use Rattle.link_lists.specs.Lists.{has_node}
use Rattle.link_lists.specs.Notes.{Ring, seen, ring_push}
use Rattle.link_lists.specs.Links.{joined, inserted}
use Rattle.link_lists.specs.Kept.{edges, Kept, Sound}
use Rattle.link_lists.specs.declared.member.Member.{Member}
use Rattle.link_lists.specs.declared.heap.Place.{Place}
use Rattle.link_lists.proofs.Moved.{Loose, loose_in, end_there, Kept-linked, count-linked, count-pulled, len_pull, rs', v', K', L', s'}
use Rattle.link_lists.proofs.Beside.{valued, Kept-valued, Loose-valued, count-valued}

module _ {A T : Type 0} (cs : List (Cell A (Member T))) (es : List Place) (rs : List (Ring T)) (K : Kept cs es rs) (p : Ptr) (h : has_node p (seen rs) ≡ true) (k : ℕ) (low : k < length (seen rs))
    (d : Place) (at_k : d ≡ slice_index_or es k d) (mid : List (Cell A (Member T))) (w : IsIn p cs (λ _ n. mid ≡ joined n.prev.ptr n.next.ptr cs)) (x : T) where
  abbrev rest : List (Ring T)
  rest = rs' cs es rs K p h k low d at_k mid w

  abbrev old : T
  old = v' cs es rs K p h k low d at_k mid w

  pub loose : Loose mid rest p old
  loose = L' cs es rs K p h k low d at_k mid w

  abbrev pub swapped : List (Cell A (Member T))
  swapped = valued mid es rest p old x (K' cs es rs K p h k low d at_k mid w) loose

  kept : Kept swapped es rest
  kept = Kept-valued mid es rest p old x (K' cs es rs K p h k low d at_k mid w) loose

  again : Loose swapped rest p x
  again = Loose-valued mid es rest p old x (K' cs es rs K p h k low d at_k mid w) loose

  pub swap_at : IsIn p swapped (λ _ _. ⊤)
  swap_at = loose_in swapped es rest kept k (len_pull p rs k low) p x again

  pub swap_end : IsIn d.ptr swapped (λ _ m. IsIn m.prev.ptr swapped (λ _ _. ⊤))
  swap_end = end_there swapped es rest kept k (len_pull p rs k low) p x again d.ptr (s' cs es rs K p h k low d at_k mid w)

  pub swap_sound : length cs ≡ length (edges rs) → (new : List (Cell A (Member T))) → IsIn d.ptr swapped (λ _ m. new ≡ inserted m.prev.ptr p d.ptr swapped) → Sound new es (ring_push k (p, x) rest)
  swap_sound c new w' =
      let e = s' cs es rs K p h k low d at_k mid w in
      record {
        kept = Kept-linked swapped es rest kept k (len_pull p rs k low) p x again d.ptr new e w';
        count = count-linked swapped es rest kept k (len_pull p rs k low) p x again d.ptr new e w'
            (count-valued mid es rest p old x (K' cs es rs K p h k low d at_k mid w) loose ∙ count-pulled cs es rs K p h mid w c);
      }
