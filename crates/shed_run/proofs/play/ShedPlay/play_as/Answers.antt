-- What comes before, the line, and what stands behind.
use Rattle.shed_points.specs.ShedList.{as_list, kept}
use Rattle.shed_run.proofs.Parts.{first_may, further, line_extends, on_err, plays_extend, still, then_may, whole_played}
use Rattle.shed_run.proofs.play.ShedPlay.play_as.Goals as goal
use Rattle.shed_run.specs.ShedLines.{line_told}
use Rattle.std.proofs.Common.{ap, ◌∙◌}
use Rattle.std.proofs.lemmas.Result.{on_err_weaker, on_ok_weaker}
use Rattle.std.specs.Prelude.{◌++◌}

pub play_stead-requires : goal.play_stead-requires
play_stead-requires c =
    then_may c.args.self.now.play c.play_kept.new.self.play (kept c.args.event.now c.args.verdict) (as_list c.args.stead) c.args.text.now c.play_kept.new.text c.requires c.in_ok-play_kept.ensures.ok

pub returns-in_err-put_line-clause-err : goal.returns-in_err-put_line-clause-err
returns-in_err-put_line-clause-err c =
    let before = kept c.args.event.now c.args.verdict in
    let may = first_may c.args.self.now.play before (as_list c.args.stead) c.requires in
    let played = plays_extend c.args.self.now.play c.play_kept.new.self.play before c.args.text.now c.play_kept.new.text may c.in_ok-play_kept.ensures.ok in
    on_err c.from_residual-in_err-put_line.result (further c.args.text.now c.play_kept.new.text c.put_line.new.into played c.in_err-put_line.ensures.err)

pub returns-clause-ok : goal.returns-clause-ok
returns-clause-ok c =
    let e = c.args.event.now in
    let v = c.args.verdict in
    let line = c.in_ok-put_line.ensures.ok ∙ ap (λ n. c.play_kept.new.text ++ line_told e v n) c.in_ok-play_kept.ensures.others.1 in
    on_ok_weaker c.play_stead.result
    (λ p. whole_played c.args.self.now.play c.play_kept.new.self.play c.play_stead.new.self.play e v c.args.self.now.events (kept e v) (as_list c.args.stead) c.args.text.now c.play_kept.new.text c.put_line.new.into c.play_stead.new.text
    c.in_ok-play_kept.ensures.ok line p)
    c.play_stead.ensures.ok

pub returns-clause-err : goal.returns-clause-err
returns-clause-err c =
    let before = kept c.args.event.now c.args.verdict in
    let may = first_may c.args.self.now.play before (as_list c.args.stead) c.requires in
    let told = line_extends c.args.self.now.play c.play_kept.new.self.play before c.args.text.now c.play_kept.new.text c.put_line.new.into _ may c.in_ok-play_kept.ensures.ok c.in_ok-put_line.ensures.ok in
    on_err_weaker c.play_stead.result (λ same. still c.args.text.now c.put_line.new.into c.play_stead.new.text told same) c.play_stead.ensures.err
