use Rattle.std.proofs.Common.{ap, arith, refl, sym, ◌∙◌}
use Rattle.std.proofs.lemmas.Bool.Decides.{nat_tests}
use Rattle.std.specs.Option.{option_map_or}
use Rattle.std.specs.Prelude.{List, Option, [], length, true, ℕ, ◌==◌, ◌∷◌, ◌≡◌}
use Rattle.wire_turns.proofs.sweeps.rest_conn.Goals as goal
use Rattle.wire_state.specs.Worlds.{octets_of}
use Rattle.wire_state.specs.declared.conn.Conn.{Conn}

none_in : (xs : List ℕ) → (length xs == 0) ≡ true → xs ≡ []
none_in [] e = refl
none_in (x ∷ xs) e = absurd (grind (arith, nat_tests))

pub returns-clause-octets : goal.returns-clause-octets
returns-clause-octets c = record {
  goes = λ h g start notes t.
      let empty : octets_of c.args.number c.args.core.now.conns ≡ [] = ap (λ (o : Option Conn). option_map_or (λ conn. conn.outlet.write.octets) o []) (sym c.in-Some.ensures.value) ∙ none_in _ (sym c.is_empty.ensures ∙ c.if-not-is_empty.false) in
      (c.forget.ensures.octets empty).goes h g start notes t;
}
