use Rattle.std.proofs.Common.{◌≡◌, ◌∙◌, ◌++◌, ◌∷◌, [], List, ℕ, Bool, cond, flat_map, take, ap, append_assoc, arith, length, sym, ◌≤◌}
use Rattle.std.proofs.lemmas.List.{append-nil, take_all}
use Rattle.hpack_codec.specs.Encoding.{encode_field}
use Rattle.hpack_codec.proofs.BlockSizes.{block_size}
use Rattle.hpack_codec.proofs.encoder.Encoder.encode_onto.Goals as goal
use Rattle.hpack_codec.proofs.encoder.Encoder.encode_onto.Goals.{then-self+in_ok-push, else-self}

-- what stands before the fields
pub returns-clause-spelling : goal.returns-clause-spelling
returns-clause-spelling c =
    let head : Bool → List ℕ = λ b. cond b (32 ∷ []) [] in
    let out = c.args.out.now.items in
    let begun : c.if-self.out.items ≡ out ++ head c.args.self.now = elim c.if-self.branch [
      | then-self+in_ok-push w ↦ ap (λ v. v.items) w.out-is ∙ w.in_ok-push.ensures.items ∙ ap (λ b. out ++ head b) (sym w.if-self.true ∙ c.self.view_is)
      | else-self w ↦ ap (λ v. v.items) w.out-is ∙ sym (append-nil out) ∙ ap (λ b. out ++ head b) (sym w.if-self.false ∙ c.self.view_is)
    ] in
    let fields = c.args.fields.now in
    let past : length fields ≤ c.loop-place.place = omega (arith, c.loop-place-test.false, ap length c.as_slice-field-items.ensures) in
    c.loop-place.invariant
    ∙ ap (λ x. x ++ flat_map encode_field (take c.loop-place.place fields)) begun
    ∙ append_assoc out (head c.args.self.now) (flat_map encode_field (take c.loop-place.place fields))
    ∙ ap (λ xs. out ++ (head c.args.self.now ++ flat_map encode_field xs)) (take_all c.loop-place.place fields past)

pub returns-clause-bound : goal.returns-clause-bound
returns-clause-bound c = block_size c.args.self.now c.args.fields.now
