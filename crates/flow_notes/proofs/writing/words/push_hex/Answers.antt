-- The text so far takes over that of a piece.
use Rattle.std.proofs.Common.{◌≡◌, ◌++◌, ℕ, List, [], sym, ap, ◌∙◌, rules}
use Rattle.std.proofs.lemmas.List.{append-nil, nil_from_length}
use Rattle.std.proofs.lemmas.Bool.{eqb-true}
use Rattle.hex.specs.Hex.{encode_lower}
use Rattle.flow_notes.proofs.Hex.{piece_goes_over, encode_lower-none}
use Rattle.flow_notes.proofs.Extending.{extends_by, extends_then}
use Rattle.flow_notes.proofs.writing.words.push_hex.Goals as goal

pub pieces-preserved : goal.pieces-preserved
pieces-preserved c =
    let added = c.in_ok-push_all-2.ensures.ok in
    record {
      text = piece_goes_over c.min.result c.pieces.into c.push_all-in-pieces.new.self c.pieces.rest.now _ c.split_at.result.1.now _ c.pieces.invariant.text (search rules) added c.split_at.ensures.back;
      kept = extends_then _ _ _ c.pieces.invariant.kept (extends_by _ _ _ added);
    }

pub returns-clause-ok : goal.returns-clause-ok
returns-clause-ok c =
    let none : c.pieces.rest.now ≡ [] = nil_from_length _ (eqb-true _ _ (sym c.is_empty.ensures ∙ c.pieces-test.false)) in
    let text : c.pieces.into ++ encode_lower c.pieces.rest.now ≡ c.pieces.into = ap (λ (octets : List ℕ). c.pieces.into ++ encode_lower octets) none
    ∙ ap (λ (text : List ℕ). c.pieces.into ++ text) encode_lower-none ∙ append-nil c.pieces.into in
    sym text ∙ c.pieces.invariant.text
