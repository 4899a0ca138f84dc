use Rattle.std.proofs.Common.{◌≡◌, ◌∙◌, length, take, true, false, sym, ap, arith}
use Rattle.std.proofs.lemmas.List.{length-map}
use Rattle.std.specs.List.{list_all}
use Rattle.filter_chain.proofs.Readings.{has_none, whole_is}
use Rattle.filter_chain.specs.Chain.{Chain}
use Rattle.filter_chain.specs.Stage.{place_of, places_of}
use Rattle.filter_chain.proofs.chain.Chain.is_whole_at.Goals as goal
use Rattle.filter_chain.proofs.chain.Chain.is_whole_at.Goals.{then-self, else-self}

pub returns-then-self-2 : goal.returns-then-self-2
returns-then-self-2 c =
    let seen : places_of c.self.inside.stages.items ≡ c.args.self.now.places = ap (λ (chain : Chain). chain.places) c.self.view_is in
    let ended : c.self.inside.ended ≡ c.args.self.now.ended = ap (λ (chain : Chain). chain.ended) c.self.view_is in
    let recv : c.self.inside.recv_empty ≡ c.args.self.now.recv_empty = ap (λ (chain : Chain). chain.recv_empty) c.self.view_is in
    let len : length c.args.self.now.places ≡ length c.self.inside.stages.items = sym (ap length seen) ∙ length-map c.self.inside.stages.items place_of in
    elim c.if-self.branch [
      | then-self w ↦
          (c.all_empty.ensures ∙ ap (λ xs. list_all has_none (take c.args.index xs)) c.deref.ensures.value)
          ∙ whole_is c.args.self.now c.self.inside.stages.items c.args.index seen (omega arith) (sym ended ∙ w.if-self.true) (sym recv ∙ (sym w.value-is ∙ c.if-self-2.true))
      | else-self w ↦
          let no : c.self.inside.ended ≡ false = w.if-self.false in
          let is : c.if-self.value ≡ c.self.inside.ended = w.value-is in
          let yes : c.if-self.value ≡ true = c.if-self-2.true in
          absurd cc
    ]
