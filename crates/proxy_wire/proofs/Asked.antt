-- What was asked for was done.
use Rattle.proxy_site.proofs.Wording.{one_form}
use Rattle.proxy_site.specs.Forms.{HasNoServeForm, IsRelay}
use Rattle.proxy_site.specs.declared.form.ServeForm.TheVariants as serve
use Rattle.proxy_wire.specs.Forms.{HasNoProxyForm, IsWire, SpellsProxy}
use Rattle.proxy_wire.specs.declared.form.ProxyForm.{ProxyForm}
use Rattle.proxy_wire.specs.declared.form.ProxyForm.TheVariants as form
use Rattle.session_run.specs.declared.status.Status.{Status}
use Rattle.std.proofs.Common.{ap, subst, sym, ◌∙◌}
use Rattle.std.specs.Prelude.{List, codes, ℕ, ◌∷◌, ◌≡◌, ◌↔◌}
use Rattle.session_run.specs.declared.status.Status.TheVariants as status

-- the words of workers are those of a relay without their first
with_relay : (words : List (List ℕ)) (n : ℕ) → IsWire words n → IsRelay (codes "relay" ∷ words) n
with_relay words n w = record { name = w.name; last = w.last; is = ap (λ (ws : List (List ℕ)). codes "relay" ∷ ws) w.is; turns = w.turns }

-- they ask for one number of turns
asked_wire : (P : ℕ → Type 0) (words : List (List ℕ)) (m n : ℕ) → IsWire words m → IsWire words n → P m → P n
asked_wire P words m n s t k = subst P (one_form (codes "relay" ∷ words) m n (with_relay words m s) (with_relay words n t)) k

-- and are no words of a relay
first_is : (a b : List ℕ) (xs ys : List (List ℕ)) → a ∷ xs ≡ b ∷ ys → a ≡ b
first_is a b xs ys e = cc

no_both : (P : Type 0) (words : List (List ℕ)) (m n : ℕ) → IsRelay words m → IsWire words n → P
no_both P words m n relay wire = absurd (wire.other (first_is wire.name (codes "relay") wire.last (relay.name ∷ relay.last) (sym wire.is ∙ relay.is)))

pub has_form : (words : List (List ℕ)) (f : ProxyForm) (how : Status) → SpellsProxy words f → (how ≡ status.Usage → ⊥) → (how ≡ status.Usage) ↔ HasNoProxyForm words
has_form words f how s other = (λ e. absurd (other e), λ w. absurd (w.none f s))

pub has_none : (words : List (List ℕ)) (how : Status) → HasNoProxyForm words → how ≡ status.Usage → (how ≡ status.Usage) ↔ HasNoProxyForm words
has_none words how without e = (λ k. without, λ k. e)

-- words of a relay are of a form
relay_used : (words : List (List ℕ)) (n : ℕ) (how : Status) → IsRelay words n → (how ≡ status.Usage) ↔ HasNoServeForm words → how ≡ status.Usage → ⊥
relay_used words n how s both e = (both.0 e).none (serve.Relay n) s

-- ---- by the form that was read
pub no_relay : (P : Type 0) (words : List (List ℕ)) (f : ProxyForm) (m n : ℕ) → f ≡ form.Wire m → SpellsProxy words f → IsRelay words n → P
no_relay P words f m n e s relay =
    let Q : ProxyForm → Type 0 = λ v. SpellsProxy words v in
    let wire : IsWire words m = subst Q e s in
    no_both P words n m relay wire

pub no_wire : (P : Type 0) (words : List (List ℕ)) (f : ProxyForm) (m n : ℕ) → f ≡ form.Relay m → SpellsProxy words f → IsWire words n → P
no_wire P words f m n e s wire =
    let Q : ProxyForm → Type 0 = λ v. SpellsProxy words v in
    let relay : IsRelay words m = subst Q e s in
    no_both P words m n relay wire

pub wire_served : (P : ℕ → Type 0) (words : List (List ℕ)) (f : ProxyForm) (m n : ℕ) → f ≡ form.Wire m → SpellsProxy words f → IsWire words n → P m → P n
wire_served P words f m n e s asked k =
    let Q : ProxyForm → Type 0 = λ v. SpellsProxy words v in
    let wire : IsWire words m = subst Q e s in
    asked_wire P words m n wire asked k

pub relay_has_form : (words : List (List ℕ)) (f : ProxyForm) (m : ℕ) (how : Status) → f ≡ form.Relay m → SpellsProxy words f → (how ≡ status.Usage) ↔ HasNoServeForm words → (how ≡ status.Usage) ↔ HasNoProxyForm words
relay_has_form words f m how e s both =
    let Q : ProxyForm → Type 0 = λ v. SpellsProxy words v in
    let relay : IsRelay words m = subst Q e s in
    has_form words f how s (relay_used words m how relay both)
