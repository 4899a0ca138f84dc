use Rattle.std.proofs.Common.{Some, ap, refl, sym, ℕ, ◌∙◌}
use Rattle.std.proofs.Math.ListN.{set}
use Rattle.h2_heads.proofs.Fronts.{takes_pseudo, tells_known}
use Rattle.h2_heads.proofs.Lowest.{value_faulty}
use Rattle.h2_heads.proofs.Pseudos.{named_by, sound_pseudo}
use Rattle.h2_heads.proofs.front.Front.take_pseudo.Goals as goal

pub returns-then-bad_value : goal.returns-then-bad_value
returns-then-bad_value c first =
    let named = named_by c.args.field.now.name c.args.pseudo c.requires.name in
    let sound = sound_pseudo c.args.field.now.name c.args.pseudo named in
    let bad = sym c.requires.value ∙ c.if-bad_value.true in
    (record { each = λ before is at. sym (value_faulty c.args.message before c.args.field.now sound bad) }, tt)

pub returns-in-Some : goal.returns-in-Some
returns-in-Some c first =
    let named = named_by c.args.field.now.name c.args.pseudo c.requires.name in
    let good = sym c.requires.value ∙ c.if-bad_value.false in
    let told = rw c.in-Some.is at c.fault_of_pseudo.ensures.tells in
    (tells_known c.args.message c.args.self.now first c.args.pseudo c.args.field.now c.args.value.now _ named (sym c.requires.text) good told, tt)

pub returns : goal.returns
returns c first =
    let named = named_by c.args.field.now.name c.args.pseudo c.requires.name in
    let good = sym c.requires.value ∙ c.if-bad_value.false in
    let told = rw c.in_default.is at c.fault_of_pseudo.ensures.tells in
    let fresh = c.fault_of_pseudo.ensures.fresh c.in_default.is in (
      tells_known c.args.message c.args.self.now first c.args.pseudo c.args.field.now c.args.value.now _ named (sym c.requires.text) good told,
      takes_pseudo c.args.self.now _ c.args.place c.args.field.now c.args.pseudo named fresh (ap (λ (i : ℕ). set c.args.self.now.places i (Some c.args.place)) c.index.ensures.place) refl,
    )
