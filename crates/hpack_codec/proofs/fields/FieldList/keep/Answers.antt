use Rattle.std.proofs.Common.{◌≡◌, ◌++◌, ◌∷◌, ◌+◌, ◌*◌, ◌^◌, ◌%◌, ◌<◌, ◌∙◌, [], List, ℕ, ap, arith, length, rules, subst, sym}
use Rattle.hpack_codec.specs.Told.{AreTold, IsToldBy}
use Rattle.hpack_codec.specs.declared.fields.Field.{Field}
use Rattle.hpack_codec.proofs.ToldFields.{octet_fits, size_more, told_below, told_more, told_past, word_fits}
use Rattle.hpack_codec.proofs.fields.FieldList.keep.Goals as goal

pub invariant_of-self-then-place-lt-TOLD : goal.invariant_of-self-then-place-lt-TOLD
invariant_of-self-then-place-lt-TOLD c =
    let word = c.self.inside.told in
    let octet = c.from.result in
    let fields = c.self.inside.fields.items in
    let place = c.len-place.result in
    let here : length fields ≡ place = omega (arith, c.len-place.ensures) in
    let P : List Field → Type 0 = AreTold (word + octet * 2 ^ (8 * place) % 2 ^ 64) in
    let Q : ℕ → Type 0 = λ w. AreTold w (fields ++ c.args.field ∷ []) in
    let same : word + octet * 2 ^ (8 * length fields) ≡ word + octet * 2 ^ (8 * place) % 2 ^ 64 =
    ap (λ n. word + octet * 2 ^ (8 * n)) here ∙ ap (λ n. word + n) (sym (octet_fits octet place (omega (arith, c.from.ensures)) c.if-place-lt-TOLD.true)) in
    let told = told_more word fields c.args.field octet (omega (arith, c.from.ensures)) c.self.invariant.2 (subst (λ o. IsToldBy o c.args.field) (sym c.from.ensures) c.requires.told) in
    (search rules, size_more fields c.args.field _ _ c.args.size c.self.inside.size c.saturating_add-self-inside.result c.in_ok-push.ensures.items c.requires.size c.self.invariant.1 c.saturating_add-self-inside.ensures, subst P (sym c.in_ok-push.ensures.items) (subst Q same told))

pub invariant_of-self-else-place-lt-TOLD : goal.invariant_of-self-else-place-lt-TOLD
invariant_of-self-else-place-lt-TOLD c =
    let word = c.self.inside.told in
    let fields = c.self.inside.fields.items in
    (search rules, size_more fields c.args.field _ _ c.args.size c.self.inside.size c.saturating_add-self-inside.result c.in_ok-push.ensures.items c.requires.size c.self.invariant.1 c.saturating_add-self-inside.ensures, subst (AreTold word) (sym c.in_ok-push.ensures.items) (told_past word fields c.args.field c.self.invariant.2))

pub overflow_add-self : goal.overflow_add-self
overflow_add-self c =
    let word = c.self.inside.told in
    let octet = c.from.result in
    let fields = c.self.inside.fields.items in
    let place = c.len-place.result in
    let here : length fields ≡ place = omega (arith, c.len-place.ensures) in
    let below : word < 2 ^ (8 * place) = subst (λ n. word < 2 ^ (8 * n)) here (told_below word fields c.self.invariant.2) in
    omega (arith, octet_fits octet place (omega (arith, c.from.ensures)) c.if-place-lt-TOLD.true, word_fits word octet place (omega (arith, c.from.ensures)) c.if-place-lt-TOLD.true below)
