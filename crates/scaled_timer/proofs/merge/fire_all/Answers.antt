use Rattle.std.proofs.Common.{inl, inr, map, length, vec_len, refl, sym, ap, ◌∙◌, arith}
use Rattle.link_lists.specs.Lists.{NodeLists}
use Rattle.scaled_timer.specs.declared.timers.Entry.{Entry}
use Rattle.scaled_timer.specs.Due.{Armed, due_timers}
use Rattle.scaled_timer.specs.Timing.{firing}
use Rattle.scaled_timer.specs.Entries.{armed_of}
use Rattle.scaled_timer.proofs.Turning.{all-waiting}
use Rattle.scaled_timer.proofs.Firing.{told_more, nil_not_cons, took_it, fewer_yet, still_kept}
use Rattle.scaled_timer.proofs.merge.fire_all.Goals as goal

pub loop-next-preserved : goal.loop-next-preserved
loop-next-preserved c =
    let kinds = c.args.kinds.now in let ppm = c.args.ppm in let now = c.args.now in
    let first = c.args.lists.now in let old = c.loop-next.lists in let new = c.fire_first.new.lists in
    let before = due_timers kinds ppm now (armed_of old.lists) in let behind = due_timers kinds ppm now (armed_of new.lists) in
    let all = due_timers kinds ppm now (armed_of first.lists) in
    let v = c.loop-next.invariant in let f = c.in-Some.ensures.some in
    let ok = sym c.is_err.ensures.value ∙ c.if-is_err.false in
    let items = took_it _ _ _ c.push.result ok c.push.ensures.items in
    let len = took_it _ _ _ c.push.result ok c.push.ensures.len in
    let less = f.fewer in
    record {
      told = told_more firing c.loop-next.fired.items c.push.new.self.items c.in-Some.next f.first before behind f.rest (map firing all) items f.told_is f.due_before f.due_behind v.told;
      names = told_more (λ (a : Armed). a.timer) old.retired new.retired f.first.timer f.first before behind f.rest _ f.fired refl f.due_before f.due_behind v.names;
      waiting = f.waiting ∙ v.waiting;
      room = elim v.room [
        | inl none ↦ absurd (nil_not_cons f.first f.rest (sym none ∙ f.due_before))
        | inr fits ↦ inr (omega (arith, fits, less, len, c.push.ensures.capacity))
      ];
      fronts = c.in-Some.ensures.fronts;
      kept = still_kept (length kinds) ppm 1 old.lists new.lists v.kept c.in-Some.ensures.kept;
      fewer = fewer_yet (length kinds) ppm (vec_len c.loop-next.fired) (vec_len c.push.new.self) first.lists old.lists new.lists len v.fewer c.in-Some.ensures.kept;
      left = let l = v.left in omega (arith, l, less, len);
    }

pub returns-clause-armed : goal.returns-clause-armed
returns-clause-armed c =
    ap (λ (s : NodeLists Entry). armed_of s.lists) c.in_default.ensures.stay
    ∙ sym (all-waiting c.args.kinds.now c.args.ppm c.args.now (armed_of c.loop-next.lists.lists) c.in_default.ensures.none) ∙ c.loop-next.invariant.waiting
