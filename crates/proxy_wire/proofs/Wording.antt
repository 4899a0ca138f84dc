-- The words of the proxy that ask for workers.
use Rattle.proxy_site.specs.Forms.{HasNoServeForm, IsNoTurns, IsTurnsWord, endless}
use Rattle.proxy_wire.specs.Forms.{HasNoProxyForm, IsNoWire, IsWire, SpellsProxy}
use Rattle.proxy_wire.specs.declared.form.ProxyForm.{ProxyForm}
use Rattle.std.proofs.Common.{ap, inl, inr, refl, subst, sym, ◌∙◌}
use Rattle.std.specs.Prelude.{List, [], codes, length, ℕ, ◌∷◌, ◌≡◌, ◌⊎◌}
use Rattle.proxy_site.specs.declared.form.ServeForm.TheVariants as serve
use Rattle.proxy_wire.specs.declared.form.ProxyForm.TheVariants as form

word_is : (word other : List ℕ) (rest last : List (List ℕ)) → word ∷ rest ≡ other ∷ last → word ≡ other
word_is word other rest last e = cc

rest_is : (word other : List ℕ) (rest last : List (List ℕ)) → word ∷ rest ≡ other ∷ last → rest ≡ last
rest_is word other rest last e = cc

pub no_form : (words : List (List ℕ)) → HasNoServeForm words → IsNoWire words → HasNoProxyForm words
no_form words relay wire = record { none = by }
  where
    by : (f : ProxyForm) → SpellsProxy words f → ⊥
    by (form.Relay n) s = relay.none (serve.Relay n) s
    by (form.Wire n) s = wire.none n s

pub is_named : (name : List ℕ) → (name ≡ codes "relay" → ⊥) → IsWire (name ∷ []) endless
is_named name other = record { name = name; last = []; is = refl; other = other; turns = inl (refl, refl) }

pub is_counted : (name turns : List ℕ) (n : ℕ) → (name ≡ codes "relay" → ⊥) → IsTurnsWord turns n → IsWire (name ∷ turns ∷ []) n
is_counted name turns n other k = record { name = name; last = turns ∷ []; is = refl; other = other; turns = inr (turns, refl, k) }

pub is_relay : (name : List ℕ) (rest : List (List ℕ)) → name ≡ codes "relay" → IsNoWire (name ∷ rest)
is_relay name rest e = record { none = λ n s. s.other (sym (word_is name s.name rest s.last s.is) ∙ e) }

pub other_turns : (name turns : List ℕ) → IsNoTurns turns → IsNoWire (name ∷ turns ∷ [])
other_turns name turns none = record { none = by }
  where
    behind : (n : ℕ) (last : List (List ℕ)) → turns ∷ [] ≡ last → ((last ≡ []) × (n ≡ endless)) ⊎ ((w : List ℕ) × (last ≡ w ∷ []) × IsTurnsWord w n) → ⊥
    behind n last e (inl all) = let i : turns ∷ [] ≡ [] = e ∙ all.0 in cc
    behind n last e (inr k) =
        let i : turns ∷ [] ≡ k.0 ∷ [] = e ∙ k.1 in
        none.none n (subst (λ w. IsTurnsWord w n) (sym (word_is turns k.0 [] [] i)) k.2)

    by : (n : ℕ) → IsWire (name ∷ turns ∷ []) n → ⊥
    by n s = behind n s.last (rest_is name s.name (turns ∷ []) s.last s.is) s.turns

-- words of another number
pub other_lengths : (words : List (List ℕ)) → (length words ≡ 1 → ⊥) → (length words ≡ 2 → ⊥) → IsNoWire words
other_lengths words no_one no_two = record { none = by }
  where
    behind : (n : ℕ) (name : List ℕ) (last : List (List ℕ)) → words ≡ name ∷ last → ((last ≡ []) × (n ≡ endless)) ⊎ ((w : List ℕ) × (last ≡ w ∷ []) × IsTurnsWord w n) → ⊥
    behind n name last e (inl none) = no_one (ap (λ (ws : List (List ℕ)). length ws) (e ∙ ap (λ (ws : List (List ℕ)). name ∷ ws) none.0))
    behind n name last e (inr k) = no_two (ap (λ (ws : List (List ℕ)). length ws) (e ∙ ap (λ (ws : List (List ℕ)). name ∷ ws) k.1))

    by : (n : ℕ) → IsWire words n → ⊥
    by n s = behind n s.name s.last s.is s.turns
