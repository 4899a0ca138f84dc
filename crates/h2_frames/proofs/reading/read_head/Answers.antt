use Rattle.std.proofs.Common.{List, ℕ, ap, drop, subst, sym, ◌++◌, ◌≡◌, ◌∙◌}
use Rattle.std.proofs.lemmas.List.{take-append-drop}
use Rattle.h2_frames.specs.Frames.{Begins}
use Rattle.h2_frames.specs.View.{head_view}
use Rattle.h2_frames.proofs.Shown.{fault_no_frame, part_no_fault, part_no_frame, shown_by_head}
use Rattle.h2_frames.proofs.reading.read_head.Goals as goal

pub returns-in-Some-fault-clause-reads : goal.returns-in-Some-fault-clause-reads
returns-in-Some-fault-clause-reads c =
    let max = c.args.max in
    let input = c.args.input.now in
    let shown = shown_by_head max input (head_view c.in-Some.head) c.in-Some.came.now c.in-Some-fault.fault c.in-Some.ensures (sym c.fault.ensures ∙ c.in-Some-fault.is) in
    (fault_no_frame max input c.in-Some-fault.fault shown, shown)

pub returns-then-came-len-clause-reads : goal.returns-then-came-len-clause-reads
returns-then-came-len-clause-reads c =
    let max = c.args.max in
    let input = c.args.input.now in
    let head = head_view c.in-Some.head in
    let came = c.in-Some.came.now in (
      part_no_frame max input head came c.in-Some.ensures c.if-came-len.true,
      part_no_fault max input head came c.in-Some.ensures (sym c.fault.ensures ∙ c.in_default-fault.is) c.if-came-len.true,
    )

pub returns-clause-reads : goal.returns-clause-reads
returns-clause-reads c =
    let head = head_view c.in-Some.head in
    let came = c.in-Some.came.now in
    let payload = c.split_at.result.0.now in
    let parts : came ≡ payload ++ drop head.len came = sym (take-append-drop head.len came) ∙ ap (λ (l : List ℕ). l ++ drop head.len came) (sym c.split_at.ensures.front) in
    record {
      after = drop head.len came;
      begins = subst (λ (l : List ℕ). Begins c.args.input.now head l) parts c.in-Some.ensures;
      whole = c.split_at.ensures.front_len;
      sound = sym c.fault.ensures ∙ c.in_default-fault.is;
    }
