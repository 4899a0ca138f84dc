use Rattle.std.proofs.Common.{◌-◌, ◌<◌, sym, ap, ◌∙◌, subst, arith}
use Rattle.link_lists.specs.Lists.{front_of}
use Rattle.overload_core.specs.Accounts.{Accounts, first_of, cleared, next_reset}
use Rattle.overload_core.specs.Tied.{classes_of}
use Rattle.overload_core.proofs.Resets.{behind-none, passed, hit, told}
use Rattle.overload_core.proofs.classes.Classes.to_reset.Goals as goal

pub returns-in-Some : goal.returns-in-Some
returns-in-Some c =
    let ls = c.self.inside.lists.lists in let t = c.loop-i-test.true in let few = c.cleared-i-end.ensures.few in
    let low = subst (λ n. c.loop-i.i < n) c.cleared-i-end.ensures.cleared t in
    let at = sym (told (front_of (7 - c.loop-i.i) ls) c.front.result c.front.ensures) ∙ sym c.copied-first.ensures ∙ c.in-Some.is in
    sym (hit (cleared c.args.state) c.loop-i.i ls low c.self.invariant.eight (omega (arith, t, few)) c.in-Some.exchange at)
    ∙ sym c.loop-i.invariant ∙ ap first_of (behind-none (cleared c.args.state) (classes_of ls))
    ∙ ap (λ (a : Accounts). next_reset c.args.state a.classes) c.self.view_is

pub loop-i-preserved : goal.loop-i-preserved
loop-i-preserved c =
    let ls = c.self.inside.lists.lists in let t = c.loop-i-test.true in let few = c.cleared-i-end.ensures.few in
    let low = subst (λ n. c.loop-i.i < n) c.cleared-i-end.ensures.cleared t in
    let at = sym (told (front_of (7 - c.loop-i.i) ls) c.front.result c.front.ensures) ∙ sym c.copied-first.ensures ∙ c.in_default.is in
    c.loop-i.invariant ∙ passed (cleared c.args.state) c.loop-i.i ls low c.self.invariant.eight (omega (arith, t, few)) at
