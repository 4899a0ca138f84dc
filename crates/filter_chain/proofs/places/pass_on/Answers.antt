use Rattle.std.proofs.Common.{◌∙◌, sym, arith}
use Rattle.filter_chain.proofs.Outcomes.{both_ok}
use Rattle.filter_chain.proofs.Passing.{above_after_it, above_before, next_above_after, next_above_before, next_overfilled, next_ready, next_room, next_sound, parts_passed, parts_ready}
use Rattle.filter_chain.proofs.places.pass_on.Goals as goal

pub returns-clause-moves : goal.returns-clause-moves
returns-clause-moves c =
    both_ok c.pass_to.result c.pass_to.ensures.lets_go c.pass_to.ensures.gains
    (parts_passed c.args.stages.now _ _ c.args.place c.index-front-place.result c.index-back-0.result c.pass_to.new.self c.pass_to.new.next
    c.split_at_mut-front.ensures.front c.split_at_mut-front.ensures.back c.requires.first c.requires.last c.args.n)

pub returns-clause-ready : goal.returns-clause-ready
returns-clause-ready c = λ quantum.
    parts_ready c.args.stages.now _ _ c.args.place c.index-front-place.result c.index-back-0.result c.pass_to.new.self c.pass_to.new.next
    c.split_at_mut-front.ensures.front c.split_at_mut-front.ensures.back c.requires.first c.requires.last quantum
    c.pass_to.ensures.room c.pass_to.ensures.next_room (omega arith) (omega arith)

pub returns-clause-from : goal.returns-clause-from
returns-clause-from c =
    let before = above_before c.args.stages.now _ _ c.args.place c.index-front-place.result c.index-back-0.result c.pass_to.new.self c.pass_to.new.next
    c.split_at_mut-front.ensures.front c.split_at_mut-front.ensures.back c.requires.first c.requires.last in
    let after = above_after_it c.args.stages.now _ _ c.args.place c.index-front-place.result c.index-back-0.result c.pass_to.new.self c.pass_to.new.next
    c.split_at_mut-front.ensures.front c.split_at_mut-front.ensures.back c.requires.first c.requires.last in
    rw (before, after) c.pass_to.ensures.from

pub returns-clause-to : goal.returns-clause-to
returns-clause-to c =
    let before = next_above_before c.args.stages.now _ _ c.args.place c.index-front-place.result c.index-back-0.result c.pass_to.new.self c.pass_to.new.next
    c.split_at_mut-front.ensures.front c.split_at_mut-front.ensures.back c.requires.first c.requires.last in
    let after = next_above_after c.args.stages.now _ _ c.args.place c.index-front-place.result c.index-back-0.result c.pass_to.new.self c.pass_to.new.next
    c.split_at_mut-front.ensures.front c.split_at_mut-front.ensures.back c.requires.first c.requires.last in
    rw (before, after) c.pass_to.ensures.to

pub returns-clause-too_large : goal.returns-clause-too_large
returns-clause-too_large c =
    let same = next_overfilled c.args.stages.now _ _ c.args.place c.index-front-place.result c.index-back-0.result c.pass_to.new.self c.pass_to.new.next
    c.split_at_mut-front.ensures.front c.split_at_mut-front.ensures.back c.requires.first c.requires.last c.args.n in
    rw same c.pass_to.ensures.too_large

pub returns-clause-covered : goal.returns-clause-covered
returns-clause-covered c = λ quantum all each room.
    c.pass_to.ensures.covered quantum
    (next_ready c.args.stages.now _ _ c.args.place c.index-front-place.result c.index-back-0.result c.pass_to.new.self c.pass_to.new.next
    c.split_at_mut-front.ensures.front c.split_at_mut-front.ensures.back c.requires.first c.requires.last quantum all)
    (next_sound c.args.stages.now _ _ c.args.place c.index-front-place.result c.index-back-0.result c.pass_to.new.self c.pass_to.new.next
    c.split_at_mut-front.ensures.front c.split_at_mut-front.ensures.back c.requires.first c.requires.last each)
    (sym (next_room c.args.stages.now _ _ c.args.place c.index-front-place.result c.index-back-0.result c.pass_to.new.self c.pass_to.new.next
    c.split_at_mut-front.ensures.front c.split_at_mut-front.ensures.back c.requires.first c.requires.last quantum c.args.n) ∙ room)
