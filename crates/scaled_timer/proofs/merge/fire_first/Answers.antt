use Rattle.std.proofs.Common.{◌≡◌, [], true, sym, ap, ◌∙◌, subst}
use Rattle.std.specs.Prelude.{⊤, None, Some, MatchOption}
use Rattle.std.specs.Option.{IsSome}
use Rattle.scaled_timer.specs.declared.timers.Entry.{Entry}
use Rattle.scaled_timer.specs.Due.{due_timers}
use Rattle.scaled_timer.specs.Entries.{armed_of}
use Rattle.scaled_timer.proofs.Firing.{nothing, low, list_low, taken_is, fewer, new_low, new_early, fires, last_front, next_front, went_well}
use Rattle.scaled_timer.proofs.merge.fire_first.Goals as goal

pub returns-in_err-front-clause-none : goal.returns-in_err-front-clause-none
returns-in_err-front-clause-none c =
    subst (λ o. MatchOption o (due_timers c.args.kinds.now c.args.ppm c.args.now (armed_of c.args.lists.now.lists) ≡ []) (λ _. ⊤)) (sym c.from_residual.ensures)
    (nothing c.args.kinds.now c.args.ppm c.args.now c.args.lists.now.lists c.args.queue.now.fronts c.requires.kept c.requires.fronts c.in_err-front.ensures.none)

pub take_front-requires : goal.take_front-requires
take_front-requires c = list_low c.args.kinds.now c.args.ppm c.args.now c.args.lists.now c.requires.kept c.in_ok-front.front c.args.queue.now c.pop.new.self c.requires.fronts c.in_ok-front.ensures.some

pub unwrap-entry-requires : goal.unwrap-entry-requires
unwrap-entry-requires c =
    let taken = taken_is c.args.kinds.now c.args.ppm c.args.now c.args.lists.now c.requires.kept c.in_ok-front.front c.args.queue.now c.pop.new.self c.requires.fronts c.in_ok-front.ensures.some c.take_front.result c.take_front.new.self c.take_front.ensures.some in
    subst IsSome (sym taken.0) (λ _. true)

pub front_at-requires-clause-kind : goal.front_at-requires-clause-kind
front_at-requires-clause-kind c = low c.args.kinds.now c.args.ppm c.args.now c.args.lists.now c.requires.kept c.in_ok-front.front c.args.queue.now c.pop.new.self c.requires.fronts c.in_ok-front.ensures.some

pub front_at-requires-clause-list : goal.front_at-requires-clause-list
front_at-requires-clause-list c =
    let taken = taken_is c.args.kinds.now c.args.ppm c.args.now c.args.lists.now c.requires.kept c.in_ok-front.front c.args.queue.now c.pop.new.self c.requires.fronts c.in_ok-front.ensures.some c.take_front.result c.take_front.new.self c.take_front.ensures.some in
    new_low c.args.kinds.now c.args.ppm c.args.now c.args.lists.now c.requires.kept c.in_ok-front.front c.args.queue.now c.pop.new.self c.requires.fronts c.in_ok-front.ensures.some c.take_front.new.self taken.1

pub front_at-requires-clause-early : goal.front_at-requires-clause-early
front_at-requires-clause-early c =
    let taken = taken_is c.args.kinds.now c.args.ppm c.args.now c.args.lists.now c.requires.kept c.in_ok-front.front c.args.queue.now c.pop.new.self c.requires.fronts c.in_ok-front.ensures.some c.take_front.result c.take_front.new.self c.take_front.ensures.some in
    new_early c.args.kinds.now c.args.ppm c.args.now c.args.lists.now c.requires.kept c.in_ok-front.front c.args.queue.now c.pop.new.self c.requires.fronts c.in_ok-front.ensures.some c.take_front.new.self taken.1 c.in_ok-front.front.kind

pub returns-else-is_err-clause-some : goal.returns-else-is_err-clause-some
returns-else-is_err-clause-some c =
    let taken = taken_is c.args.kinds.now c.args.ppm c.args.now c.args.lists.now c.requires.kept c.in_ok-front.front c.args.queue.now c.pop.new.self c.requires.fronts c.in_ok-front.ensures.some c.take_front.result c.take_front.new.self c.take_front.ensures.some in
    let id = ap (λ (e : Entry). e.id) (ap (λ o. elim o as (λ _. Entry) [ None ↦ c.unwrap-entry.result | Some x ↦ x ]) (sym c.unwrap-entry.ensures ∙ taken.0)) in
    fires c.args.kinds.now c.args.ppm c.args.now c.args.lists.now c.requires.kept c.in_ok-front.front c.args.queue.now c.pop.new.self c.requires.fronts c.in_ok-front.ensures.some c.take_front.new.self taken.1 _ (λ j. record { kind = c.in_ok-front.front.kind; id = id j })

pub returns-else-is_err-clause-kept : goal.returns-else-is_err-clause-kept
returns-else-is_err-clause-kept c =
    let taken = taken_is c.args.kinds.now c.args.ppm c.args.now c.args.lists.now c.requires.kept c.in_ok-front.front c.args.queue.now c.pop.new.self c.requires.fronts c.in_ok-front.ensures.some c.take_front.result c.take_front.new.self c.take_front.ensures.some in
    fewer c.args.kinds.now c.args.ppm c.args.now c.args.lists.now c.requires.kept c.in_ok-front.front c.args.queue.now c.pop.new.self c.requires.fronts c.in_ok-front.ensures.some c.take_front.new.self taken.1

pub returns-else-is_err-clause-fronts : goal.returns-else-is_err-clause-fronts
returns-else-is_err-clause-fronts c =
    let taken = taken_is c.args.kinds.now c.args.ppm c.args.now c.args.lists.now c.requires.kept c.in_ok-front.front c.args.queue.now c.pop.new.self c.requires.fronts c.in_ok-front.ensures.some c.take_front.result c.take_front.new.self c.take_front.ensures.some in
    next_front c.args.kinds.now c.args.ppm c.args.now c.args.lists.now c.requires.kept c.in_ok-front.front c.args.queue.now c.pop.new.self c.requires.fronts c.in_ok-front.ensures.some c.take_front.new.self taken.1 c.in-Some.next c.insert.new.self.fronts (sym c.in-Some.ensures) (went_well c.insert.result (sym c.is_err.ensures.value ∙ c.if-is_err.false) c.insert.ensures.ok)

pub returns-in_default-clause-some : goal.returns-in_default-clause-some
returns-in_default-clause-some c =
    let taken = taken_is c.args.kinds.now c.args.ppm c.args.now c.args.lists.now c.requires.kept c.in_ok-front.front c.args.queue.now c.pop.new.self c.requires.fronts c.in_ok-front.ensures.some c.take_front.result c.take_front.new.self c.take_front.ensures.some in
    let id = ap (λ (e : Entry). e.id) (ap (λ o. elim o as (λ _. Entry) [ None ↦ c.unwrap-entry.result | Some x ↦ x ]) (sym c.unwrap-entry.ensures ∙ taken.0)) in
    fires c.args.kinds.now c.args.ppm c.args.now c.args.lists.now c.requires.kept c.in_ok-front.front c.args.queue.now c.pop.new.self c.requires.fronts c.in_ok-front.ensures.some c.take_front.new.self taken.1 _ (λ j. record { kind = c.in_ok-front.front.kind; id = id j })

pub returns-in_default-clause-kept : goal.returns-in_default-clause-kept
returns-in_default-clause-kept c =
    let taken = taken_is c.args.kinds.now c.args.ppm c.args.now c.args.lists.now c.requires.kept c.in_ok-front.front c.args.queue.now c.pop.new.self c.requires.fronts c.in_ok-front.ensures.some c.take_front.result c.take_front.new.self c.take_front.ensures.some in
    fewer c.args.kinds.now c.args.ppm c.args.now c.args.lists.now c.requires.kept c.in_ok-front.front c.args.queue.now c.pop.new.self c.requires.fronts c.in_ok-front.ensures.some c.take_front.new.self taken.1

pub returns-in_default-clause-fronts : goal.returns-in_default-clause-fronts
returns-in_default-clause-fronts c =
    let taken = taken_is c.args.kinds.now c.args.ppm c.args.now c.args.lists.now c.requires.kept c.in_ok-front.front c.args.queue.now c.pop.new.self c.requires.fronts c.in_ok-front.ensures.some c.take_front.result c.take_front.new.self c.take_front.ensures.some in
    last_front c.args.kinds.now c.args.ppm c.args.now c.args.lists.now c.requires.kept c.in_ok-front.front c.args.queue.now c.pop.new.self c.requires.fronts c.in_ok-front.ensures.some c.take_front.new.self taken.1 (sym c.in_default.ensures)
