use Rattle.std.proofs.Common.{◌+◌, ◌∙◌, Option, Some, ap, drop, subst, sym, ℕ}
use Rattle.std.specs.Option.{option_or}
use Rattle.hpack_codec.specs.Table.{line, row_of}
use Rattle.hpack_codec.proofs.FieldSearch.{IsEntry, Left, all_left, found_here, named_on, none_left, passed_on}
use Rattle.hpack_codec.proofs.StaticPlaces.{is_within}
use Rattle.hpack_codec.proofs.static_table.find.Goals as goal
use Rattle.hpack_codec.proofs.static_table.find.Goals.{else-is_same, then-is_same+else-is_same-2}

pub loop-place-init : goal.loop-place-init
loop-place-init c = all_left c.args.name.now c.args.value.now c.places_of-place-items.result.now c.places_of-place-items.ensures

pub static_entry-entry-requires : goal.static_entry-entry-requires
static_entry-entry-requires c =
    is_within c.places_of-place-items.result.now (row_of c.args.name.now) c.loop-place.place-index c.from.result c.places_of-place-items.ensures c.loop-place-test.true c.from.ensures

pub returns-then-is_same-2-clause-name : goal.returns-then-is_same-2-clause-name
returns-then-is_same-2-clause-name c =
    let entry = c.static_entry-entry.result in
    c.or-first.ensures
    ∙ ap (λ (p : ℕ). option_or c.loop-place.first (Some (p + 1))) (c.from-index.ensures ∙ sym c.from.ensures)
    ∙ (found_here c.args.name.now c.args.value.now c.loop-place.first c.places_of-place-items.result.now c.loop-place.place-index c.from.result (line entry.name.now entry.value.now) c.loop-place.invariant
    (record { within = c.loop-place-test.true; place = c.from.ensures; found = c.static_entry-entry.ensures })
    (sym c.is_same.ensures ∙ c.if-is_same.true) (sym c.is_same-then-is_same.ensures ∙ c.if-is_same-2.true)).named

pub returns-then-is_same-2-clause-whole : goal.returns-then-is_same-2-clause-whole
returns-then-is_same-2-clause-whole c =
    let entry = c.static_entry-entry.result in
    ap (λ (p : ℕ). Some (p + 1)) (c.from-index.ensures ∙ sym c.from.ensures)
    ∙ (found_here c.args.name.now c.args.value.now c.loop-place.first c.places_of-place-items.result.now c.loop-place.place-index c.from.result (line entry.name.now entry.value.now) c.loop-place.invariant
    (record { within = c.loop-place-test.true; place = c.from.ensures; found = c.static_entry-entry.ensures })
    (sym c.is_same.ensures ∙ c.if-is_same.true) (sym c.is_same-then-is_same.ensures ∙ c.if-is_same-2.true)).whole

pub loop-place-preserved : goal.loop-place-preserved
loop-place-preserved c =
    let name = c.args.name.now in
    let value = c.args.value.now in
    let places = c.places_of-place-items.result.now in
    let k = c.loop-place.place-index in
    let p = c.from.result in
    let entry = c.static_entry-entry.result in
    let here : IsEntry places k p (line entry.name.now entry.value.now) = record { within = c.loop-place-test.true; place = c.from.ensures; found = c.static_entry-entry.ensures } in
    elim c.if-is_same.branch [
      | then-is_same+else-is_same-2 w ↦
          let first = w.first-is ∙ w.or-first.ensures ∙ ap (λ (q : ℕ). option_or c.loop-place.first (Some (q + 1))) (w.from-index.ensures ∙ sym c.from.ensures) in
          subst (λ (f : Option ℕ). Left name value f (drop (k + 1) places)) (sym first)
          (named_on name value c.loop-place.first places k p (line entry.name.now entry.value.now) c.loop-place.invariant here (sym c.is_same.ensures ∙ w.if-is_same.true) (sym w.is_same-then-is_same.ensures ∙ w.if-is_same-2.false))
      | else-is_same w ↦
          subst (λ (f : Option ℕ). Left name value f (drop (k + 1) places)) (sym w.first-is)
          (passed_on name value c.loop-place.first places k p (line entry.name.now entry.value.now) c.loop-place.invariant here (sym c.is_same.ensures ∙ w.if-is_same.false))
    ]

pub returns : goal.returns
returns c =
    let found = none_left c.args.name.now c.args.value.now c.loop-place.first c.places_of-place-items.result.now c.loop-place.place-index c.loop-place-test.false c.loop-place.invariant in
    record { name = found.named; whole = found.whole }
