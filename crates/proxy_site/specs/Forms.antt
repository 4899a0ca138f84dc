-- The words of the proxy.
use Rattle.proxy_site.specs.declared.form.ServeForm.{ServeForm}
use Rattle.std.specs.Fmt.{decimal}
use Rattle.std.specs.Prelude.{List, [], codes, ℕ, ◌-◌, ◌^◌, ◌∷◌, ◌≡◌, ◌≤◌, ◌⊎◌}
use Rattle.proxy_site.specs.declared.form.ServeForm.TheVariants as form

-- how many turns there are where the words don't say it
abbrev pub endless : ℕ
endless = 2 ^ 63 - 1

-- the word of a number of turns
pub record IsTurnsWord (word : List ℕ) (turns : ℕ) : Type 0 where
  pub least : 1 ≤ turns
  pub most : turns ≤ 4294967295
  pub is : word ≡ decimal turns

pub record IsNoTurns (word : List ℕ) : Type 0 where
  pub none : (turns : ℕ) → IsTurnsWord word turns → ⊥

-- the name of a configuration may be any word
pub record IsRelay (words : List (List ℕ)) (n : ℕ) : Type 0 where
  pub name : List ℕ
  pub last : List (List ℕ)
  pub is : words ≡ codes "relay" ∷ name ∷ last
  pub turns : ((last ≡ []) × (n ≡ endless)) ⊎ ((word : List ℕ) × (last ≡ word ∷ []) × IsTurnsWord word n)

abbrev pub SpellsServe : List (List ℕ) → ServeForm → Type 0
SpellsServe words (form.Relay n) = IsRelay words n

pub record HasNoServeForm (words : List (List ℕ)) : Type 0 where
  pub none : (f : ServeForm) → SpellsServe words f → ⊥
