-- The words of the proxy, of all its forms.
use Rattle.proxy_site.specs.Forms.{IsRelay, IsTurnsWord, endless}
use Rattle.proxy_wire.specs.declared.form.ProxyForm.{ProxyForm}
use Rattle.std.specs.Prelude.{List, [], codes, ℕ, ◌∷◌, ◌≡◌, ◌≢◌, ◌⊎◌}
use Rattle.proxy_wire.specs.declared.form.ProxyForm.TheVariants as form

-- the name of a configuration may be any word but `relay`
pub record IsWire (words : List (List ℕ)) (n : ℕ) : Type 0 where
  pub name : List ℕ
  pub last : List (List ℕ)
  pub is : words ≡ name ∷ last
  pub other : name ≢ codes "relay"
  pub turns : ((last ≡ []) × (n ≡ endless)) ⊎ ((word : List ℕ) × (last ≡ word ∷ []) × IsTurnsWord word n)

pub record IsNoWire (words : List (List ℕ)) : Type 0 where
  pub none : (n : ℕ) → IsWire words n → ⊥

abbrev pub SpellsProxy : List (List ℕ) → ProxyForm → Type 0
SpellsProxy words (form.Relay n) = IsRelay words n
SpellsProxy words (form.Wire n) = IsWire words n

pub record HasNoProxyForm (words : List (List ℕ)) : Type 0 where
  pub none : (f : ProxyForm) → SpellsProxy words f → ⊥
