-- The first unit that waits is a reply, and is framed.
use Rattle.std.proofs.Common.{Bool, List, Option, Some, ap, drop, false, subst, sym, true, ℕ, ◌∙◌, ◌≡◌, ◌∷◌}
use Rattle.h2_heads.specs.Replies.{status_list}
use Rattle.wire_outlet.specs.Heads.{section_octets}
use Rattle.wire_outlet.specs.Outgoing.{FramesFirst, Outgoing, Writes}
use Rattle.wire_outlet.specs.declared.outlet.Framed.{Framed}
use Rattle.wire_outlet.specs.declared.outlet.Framed.TheVariants as framed
use Rattle.wire_outlet.specs.declared.waiting.Waiting.{Waiting}
use Rattle.wire_outlet.specs.declared.waiting.Waiting.TheVariants.{Reply}
use Rattle.wm_buffer.specs.Buffer.{Buffer}
use Rattle.wm_buffer.specs.Watermark.{crossing}
use Rattle.wm_buffer.specs.declared.watermark.Crossed.{Crossed}

-- its frames were written, and then it is dropped from the list
reply : (old mid : Outgoing) (stream status : ℕ) (later : List Waiting) (octets : List ℕ) (crossed : Crossed) → old.waiting ≡ Reply stream status ∷ later
    → octets ≡ section_octets old.anew stream true (status_list status) → crossed ≡ crossing old.write.above mid.write.above
    → Writes (section_octets old.anew stream true (status_list status)) old (record old { anew = false }) mid
    → FramesFirst old.waiting old (record mid { waiting = later }) (Some (framed.Reply stream octets, crossed))
reply old mid stream status later octets crossed waits spelled cross writes =
    let answer = λ (o : List ℕ) (x : Crossed). let r : Option (Framed × Crossed) = Some (framed.Reply stream o, x) in r in
    rw waits (
      ap (λ o. answer o crossed) spelled ∙ ap (λ x. answer (section_octets old.anew stream true (status_list status)) x) cross,
      record { write = writes.write; rest = ap (λ (o : Outgoing). record o { waiting = later }) writes.rest },
    )

-- the same of the parts of what stands then
pub reply_popped : (old mid : Outgoing) (write : Buffer) (waiting popped : List Waiting) (anew : Bool) (stream status : ℕ) (octets : List ℕ) (crossed : Crossed)
    → record { write = write; waiting = waiting; anew = anew } ≡ mid → popped ≡ drop 1 waiting → old.waiting ≡ Reply stream status ∷ drop 1 old.waiting
    → octets ≡ section_octets old.anew stream true (status_list status) → crossed ≡ crossing old.write.above mid.write.above
    → Writes (section_octets old.anew stream true (status_list status)) old (record old { anew = false }) mid
    → FramesFirst old.waiting old (record { write = write; waiting = popped; anew = anew }) (Some (framed.Reply stream octets, crossed))
reply_popped old mid write waiting popped anew stream status octets crossed parts rest waits spelled cross writes =
    let later = drop 1 old.waiting in
    let same : waiting ≡ old.waiting = ap (λ (o : Outgoing). o.waiting) parts ∙ ap (λ (o : Outgoing). o.waiting) writes.rest in
    let outgoing = λ (l : List Waiting). let o : Outgoing = record { write = write; waiting = l; anew = anew } in o in
    let stands : outgoing popped ≡ record mid { waiting = later } =
    ap outgoing (rest ∙ ap (drop 1) same) ∙ ap (λ (o : Outgoing). record o { waiting = later }) parts in
    subst (λ (o : Outgoing). FramesFirst old.waiting old o (Some (framed.Reply stream octets, crossed))) (sym stands)
    (reply old mid stream status later octets crossed waits spelled cross writes)
