-- What a site tells.
use Rattle.proxy_site.specs.Memory.{listens_of}
use Rattle.proxy_site.specs.Sites.{TellsAll, TellsBack, TellsGiven, TellsListening, TellsNoMore, Told, with_back, with_given}
use Rattle.std.proofs.Common.{ap, inl, inr, refl, ◌∙◌}
use Rattle.std.specs.Prelude.{List, Option, [], ℕ, ◌++◌, ◌∷◌, ◌≡◌}

module _ {T J : Type 0} where
  -- it listened, gave to a relay, and got back
  pub all_told : (old at mid new : Option (Told T J)) (address : List ℕ × List ℕ) (p q : T × J)
      → TellsListening old address at → TellsGiven at p mid → TellsBack mid q new → TellsAll old address p q new
  all_told old at mid new address p q l g (inl e) = inl e
  all_told old at mid new address p q l (inl e) (inr f) = inl (f ∙ ap (with_back q) e)
  all_told old at mid new address p q (inl d) (inr e) (inr f) = inl (f ∙ ap (with_back q) (e ∙ ap (with_given p) d))
  all_told old at mid new address p q (inr d) (inr e) (inr f) = inr (f ∙ ap (with_back q) (e ∙ ap (with_given p) d))

  -- it listened alone
  pub listened_alone : (old at new : Option (Told T J)) (asked used : List ℕ) → TellsListening old (asked, used) at → new ≡ at → TellsNoMore old asked new
  listened_alone old at new asked used (inl d) e = inr (used, inl (e ∙ d))
  listened_alone old at new asked used (inr d) e = inr (used, inr (e ∙ d))
