use Rattle.std.proofs.Common.{◌≡◌, ◌+◌, ap, ◌∙◌, sym, subst, fold, [], ◌∷◌, ◌++◌}
use Rattle.left_right.specs.Sides.{view}
use Rattle.shared_state.specs.declared.entries.Entry.{Entry}
use Rattle.shared_state.specs.Published.{IsLast}
use Rattle.shared_state.proofs.ListSteps.{publishes, known_is}
use Rattle.shared_state.proofs.publishing.show.Goals as goal

pub publish_as-press-requires : goal.publish_as-press-requires
publish_as-press-requires g c next is =
    let desk = c.in_default.ensures.desk in
    let pend = c.in_default.ensures.pending ∙ ap (λ l. l ++ c.args.entry ∷ []) c.requires.pending in
    let same : next ≡ c.args.entry = is ∙ ap (λ l. fold (λ (_ : Entry) (e : Entry). e) c.append.new.self.desk.shown.value l) pend in
    publishes _ _ _ next (subst (λ d. IsLast d.shown.value (view d.place)) (sym desk) c.requires.last)
    (ap (λ (e : Entry). e.version) same ∙ c.requires.next ∙ ap (λ d. d.shown.value.version + 1) (sym desk))

pub returns-clause-known : goal.returns-clause-known
returns-clause-known g c =
    let desk = c.in_default.ensures.desk in
    let pend = c.in_default.ensures.pending ∙ ap (λ l. l ++ c.args.entry ∷ []) c.requires.pending in
    let shows = rw c.in-Ok.is at c.publish_as-press.ensures.rule in
    let values = rw c.in-Ok.is at c.publish_as-press.ensures.values in
    let is : c.publish_as-press.result.0.desk.shown.value ≡ c.args.entry = values.0 ∙ ap (λ l. fold (λ (_ : Entry) (e : Entry). e) c.append.new.self.desk.shown.value l) pend in
    (is, known_is _ _ _ c.publish_as-press.result.0.desk.shown.value c.args.entry shows is (ap (λ d. view d.place) desk) (c.requires.next ∙ ap (λ n. n + 1) c.requires.last.0))
