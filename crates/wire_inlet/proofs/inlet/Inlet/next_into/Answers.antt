use Rattle.std.proofs.Common.{None, Option, ap, refl, subst, sym, true, ℕ, ◌∙◌}
use Rattle.h2_frames.specs.Fault.{fault_code}
use Rattle.h2_frames.specs.View.{head_view}
use Rattle.h2_frames.specs.declared.types.FrameFault.{FrameFault}
use Rattle.wire_inlet.specs.Incoming.{Incoming, meaning_of, preface_left}
use Rattle.wire_inlet.specs.Meaning.{Meaning}
use Rattle.wire_inlet.specs.Next.{IsWithin, Lacks, TakesFrame}
use Rattle.wire_inlet.specs.Payloads.{TakesPayload}
use Rattle.wire_inlet.specs.declared.intake.Intake.TheVariants.{Fault}
use Rattle.wire_inlet.specs.contracts.inlet.Inlet.{the_view}
use Rattle.wire_inlet.proofs.Nexts.{within}
use Rattle.wire_inlet.proofs.Taking.{lacks_frame, left_of_payload, takeable, takes_payload}
use Rattle.wire_inlet.proofs.inlet.Inlet.next_into.Goals as goal

pub take_payload-requires-clause-takeable : goal.take_payload-requires-clause-takeable
take_payload-requires-clause-takeable c =
    let v : Incoming = the_view c.self.inside in
    takeable c.args.max (preface_left v.prefaced) c.in-Ok.frames.now v.unread c.as_slice-unread.result.now (head_view c.in-Whole.head) c.in-Whole.payload.now
    c.as_slice-unread.ensures c.in-Ok.ensures.frames c.in-Whole.ensures.reads

pub returns-in-Ok-Some-clause-next : goal.returns-in-Ok-Some-clause-next
returns-in-Ok-Some-clause-next c =
    let v : Incoming = the_view c.self.inside in
    let max = c.args.max in
    let head = head_view c.in-Whole.head in
    let payload = c.in-Whole.payload.now in
    let fault = c.in-Ok-Some.fault in
    let behind = sym c.as_slice-unread.ensures ∙ c.in-Ok.ensures.frames in
    let told = subst (λ (f : Option FrameFault). TakesPayload head payload f c.behind_preface.new.reader c.take_payload.new.into c.take_payload.new.reader) c.in-Ok-Some.field-0-is c.in-Ok-Some.ensures.taken in
    let lacks : Lacks max v (Fault (fault_code fault)) = lacks_frame max v c.in-Ok.frames.now head payload fault behind c.in-Whole.ensures.reads told.0 in
    let code : Lacks max v (Fault c.code-in-Ok-Some.result) = subst (λ (n : ℕ). Lacks max v (Fault n)) (sym c.code-in-Ok-Some.ensures) lacks in
    let same = told.1 ∙ c.behind_preface.ensures.same in (
      subst (λ (x : Incoming). Lacks max x (Fault c.code-in-Ok-Some.result)) c.self.view_is code,
      ap (λ (r : Meaning). the_view (record { unread = c.self.inside.unread; prefaced = c.self.inside.prefaced; reader = r })) same ∙ c.self.view_is,
    )

gives : (c : goal.After-self-1) → TakesPayload (head_view c.in-Whole.head) c.in-Whole.payload.now None (meaning_of (the_view c.self.inside)) c.take_payload.new.into c.take_payload.new.reader
gives c =
    let head = head_view c.in-Whole.head in
    let payload = c.in-Whole.payload.now in
    let none = subst (λ (f : Option FrameFault). TakesPayload head payload f c.behind_preface.new.reader c.take_payload.new.into c.take_payload.new.reader) c.in-Ok-None.field-0-is c.in-Ok-None.ensures.taken in
    subst (λ (m : Meaning). TakesPayload head payload None m c.take_payload.new.into c.take_payload.new.reader) c.behind_preface.ensures.same none

taken_at : (c : goal.After-self-1) → TakesFrame c.args.max (the_view c.self.inside) c.take_payload.new.into
    (the_view (record { unread = c.take.new.self; prefaced = true; reader = c.take_payload.new.reader }))
taken_at c =
    let v : Incoming = the_view c.self.inside in
    let w : Incoming = the_view (record { unread = c.take.new.self; prefaced = true; reader = c.take_payload.new.reader }) in
    let frames = c.in-Ok.frames.now in
    let head = head_view c.in-Whole.head in
    let payload = c.in-Whole.payload.now in
    let behind = sym c.as_slice-unread.ensures ∙ c.in-Ok.ensures.frames in
    let left = left_of_payload c.args.max (preface_left v.prefaced) frames v.unread c.as_slice-unread.result.now head payload c.as_slice-unread.ensures c.in-Ok.ensures.frames c.in-Whole.ensures.reads in
    takes_payload c.args.max v w c.take_payload.new.into frames head payload behind c.in-Whole.ensures.reads (c.take.ensures ∙ left) (gives c) refl

pub returns-in-Ok-None-clause-next : goal.returns-in-Ok-None-clause-next
returns-in-Ok-None-clause-next c =
    subst (λ (x : Incoming). TakesFrame c.args.max x c.take_payload.new.into (the_view (record { unread = c.take.new.self; prefaced = true; reader = c.take_payload.new.reader }))) c.self.view_is (taken_at c)

pub returns-in-Ok-None-clause-inside : goal.returns-in-Ok-None-clause-inside
returns-in-Ok-None-clause-inside c =
    let w : Incoming = the_view (record { unread = c.take.new.self; prefaced = true; reader = c.take_payload.new.reader }) in
    subst (λ (x : Incoming). IsWithin c.args.max x c.take_payload.new.into w) c.self.view_is
    (within c.args.max (the_view c.self.inside) w c.take_payload.new.into (taken_at c) (gives c).2.stream (gives c).2.fields)
