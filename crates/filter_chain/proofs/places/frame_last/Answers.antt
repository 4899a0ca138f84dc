use Rattle.std.proofs.Common.{◌≡◌, ◌-◌, ◌≤◌, ◌++◌, ◌∙◌, length, take, sym, ap, subst, arith}
use Rattle.std.proofs.Math.ListN.{set}
use Rattle.std.proofs.lemmas.List.{get_or-set_same, length-map, length-set}
use Rattle.std.proofs.lemmas.Result.{on_ok_weaker}
use Rattle.filter_chain.proofs.Row.{stage_above, stage_changed, stage_octets}
use Rattle.filter_chain.specs.Effects.{changed_at}
use Rattle.filter_chain.specs.Place.{losing}
use Rattle.filter_chain.specs.Stage.{place_of, places_of}
use Rattle.wm_buffer.specs.Buffer.{AppendsOctets}
use Rattle.filter_chain.proofs.places.frame_last.Goals as goal

pub send_to-requires : goal.send_to-requires
send_to-requires c =
    subst (λ octets. c.args.n ≤ length octets)
    (stage_octets c.args.stages.now (length c.args.stages.now - 1) (length c.args.stages.now) c.index-stages-last.result (omega arith) (omega arith))
    c.requires.octets

pub returns-clause-loses : goal.returns-clause-loses
returns-clause-loses c =
    on_ok_weaker c.send_to.result
    (λ h. stage_changed (losing c.args.n) c.args.stages.now (length c.args.stages.now - 1) (length c.args.stages.now) c.index-stages-last.result c.send_to.new.self (omega arith) (omega arith) h
    ∙ ap (λ k. changed_at (losing c.args.n) k (places_of c.args.stages.now)) (sym (length-map c.args.stages.now place_of)))
    c.send_to.ensures.loses

pub returns-clause-appends : goal.returns-clause-appends
returns-clause-appends c =
    on_ok_weaker c.send_to.result
    (subst (λ octets. AppendsOctets c.args.out.now c.send_to.new.out (c.args.head.now ++ take c.args.n octets))
    (sym (stage_octets c.args.stages.now (length c.args.stages.now - 1) (length c.args.stages.now) c.index-stages-last.result (omega arith) (omega arith))))
    c.send_to.ensures.appends

pub returns-clause-from : goal.returns-clause-from
returns-clause-from c =
    let before = stage_above c.args.stages.now (length c.args.stages.now - 1) (length c.args.stages.now) c.index-stages-last.result (omega arith) (omega arith) in
    let same : length (set c.args.stages.now (length c.args.stages.now - 1) c.send_to.new.self) ≡ length c.args.stages.now = length-set c.args.stages.now (length c.args.stages.now - 1) c.send_to.new.self in
    let at = get_or-set_same c.args.stages.now (length c.args.stages.now - 1) c.send_to.new.self c.index-stages-last.result (omega arith) in
    let after = stage_above (set c.args.stages.now (length c.args.stages.now - 1) c.send_to.new.self) (length c.args.stages.now - 1) (length c.args.stages.now) c.index-stages-last.result (omega arith) (omega arith) ∙ ap (λ s. s.buffer.above) at in
    rw (before, after) c.send_to.ensures.from
