-- What was asked for was done.
use Rattle.proxy_site.proofs.Wording.{one_form}
use Rattle.proxy_site.specs.Forms.{HasNoServeForm, SpellsServe}
use Rattle.proxy_site.specs.declared.form.ServeForm.{ServeForm}
use Rattle.session_run.specs.declared.status.Status.{Status}
use Rattle.std.proofs.Common.{refl, subst, sym, ◌∙◌}
use Rattle.std.specs.Prelude.{List, ℕ, ◌≡◌, ◌↔◌}
use Rattle.proxy_site.specs.declared.form.ServeForm.TheVariants as form
use Rattle.session_run.specs.declared.status.Status.TheVariants as status

-- there is one form
pub form_is : (f : ServeForm) → (m : ℕ) × (f ≡ form.Relay m)
form_is (form.Relay m) = (m, refl)

-- the words ask for one number of turns
pub served_for : (P : ℕ → Type 0) (words : List (List ℕ)) (m n : ℕ) → SpellsServe words (form.Relay m) → SpellsServe words (form.Relay n) → P m → P n
served_for P words m n s t k = subst P (one_form words m n s t) k

pub has_form : (words : List (List ℕ)) (n : ℕ) (how : Status) → SpellsServe words (form.Relay n) → (how ≡ status.Usage → ⊥) → (how ≡ status.Usage) ↔ HasNoServeForm words
has_form words n how s other = (λ e. absurd (other e), λ w. absurd (w.none (form.Relay n) s))

pub has_none : (words : List (List ℕ)) (how : Status) → HasNoServeForm words → how ≡ status.Usage → (how ≡ status.Usage) ↔ HasNoServeForm words
has_none words how without e = (λ k. without, λ k. e)

-- words of no form have no fault
pub usage_no_read_fault : (how : Status) (P : Type 0) → how ≡ status.Usage → how ≡ status.ReadFault → P
usage_no_read_fault how P u e = let i : status.Usage ≡ status.ReadFault = sym u ∙ e in cc

pub usage_no_write_fault : (how : Status) (P : Type 0) → how ≡ status.Usage → how ≡ status.WriteFault → P
usage_no_write_fault how P u e = let i : status.Usage ≡ status.WriteFault = sym u ∙ e in cc
