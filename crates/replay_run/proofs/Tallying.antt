-- A tally, note by note.
use Rattle.flow_rules.specs.declared.ids.BufferId.{BufferId}
use Rattle.flow_rules.specs.declared.ids.FlowId.{FlowId}
use Rattle.flow_notes.specs.Passages.{notes_of_passage}
use Rattle.flow_notes.specs.declared.notes.Note.{Note}
use Rattle.flow_notes.specs.declared.passages.Passage.{Passage}
use Rattle.io_ports.specs.declared.octets.NoMemory.{NoMemory}
use Rattle.tape_summary.proofs.Levels.{lawful_back, unwritten_goes}
use Rattle.tape_summary.proofs.Pausing.{onto_more}
use Rattle.replay_run.specs.ShortSummary.{octets_framed, octets_in, pauses_in, resets_in, short_summary, streams_in}
use Rattle.replay_run.specs.Tally.{Counted, TallyGoes, TallyIs, tally_text}
use Rattle.replay_run.specs.declared.tally.Tally.{Tally}
use Rattle.std.proofs.Common.{Bor, ap, arith, refl, subst, sym, ◌∙◌}
use Rattle.std.proofs.lemmas.List.{append-nil}
use Rattle.std.proofs.lemmas.List.Sums.{sum_by-cons}
use Rattle.std.proofs.lemmas.Result.{on_ok_weaker}
use Rattle.std.specs.List.{sum_by}
use Rattle.std.specs.Prelude.{List, OnOk, Result, [], length, map, ℕ, ◌++◌, ◌+◌, ◌∷◌, ◌≡◌}
use Rattle.tape_laws.specs.History.{History, NoMark, notes_of, onto}
use Rattle.tape_laws.specs.PlainTape.{IsPlainLawful}
use Rattle.tape_laws.specs.declared.PlainLimits.{PlainLimits}
use Rattle.flow_notes.specs.declared.notes.Note.TheVariants as note
use Rattle.flow_notes.specs.declared.passages.Passage.TheVariants as passage

-- ---- one note

one_more_of : (f : Note → ℕ) (n : Note) (ns : List Note) (old new : ℕ) → new ≡ old + f n → old ≡ sum_by f ns → new ≡ sum_by f (n ∷ ns)
one_more_of f n ns old new e was = let c = sum_by-cons f n ns in omega (arith, e, was, c)

pub counted_goes : (old new : Tally) (n : Note) → Counted old n new → TallyGoes old (n ∷ []) new
counted_goes old new n c = record {
  goes = λ limits h law t. record {
    streams_are = one_more_of streams_in n (notes_of h) old.streams new.streams c.streams t.streams_are;
    received_is = one_more_of octets_in n (notes_of h) old.received new.received c.received t.received_is;
    sent_is = one_more_of octets_framed n (notes_of h) old.sent new.sent c.sent t.sent_is;
    write_is = c.write.goes limits h law t.write_is;
    pauses_are = one_more_of pauses_in n (notes_of h) old.pauses new.pauses c.pauses t.pauses_are;
    resets_are = one_more_of resets_in n (notes_of h) old.resets new.resets c.resets t.resets_are;
  };
}

no_more : (n : ℕ) → n ≡ n + 0
no_more n = omega arith

counted_as : (old new : Tally) (m n : Note) → m ≡ n → Counted old n new → Counted old m new
counted_as old new m n e k = let P : Note → Type 0 = λ v. Counted old v new in subst P (sym e) k

-- a pause leaves the write buffer as it was
pub pause_counted : (old : Tally) (m : Note) (f : FlowId) (b : BufferId) (v : ℕ) → m ≡ note.Pause f b → v ≡ old.pauses + 1 → Counted old m (record old { pauses = v })
pause_counted old m f b v e ev = counted_as old (record old { pauses = v }) m (note.Pause f b) e (record {
  streams = no_more old.streams;
  received = no_more old.received;
  sent = no_more old.sent;
  pauses = ev;
  resets = no_more old.resets;
  write = unwritten_goes old.write (note.Pause f b) (λ c g k l q. cc) (λ c k q. cc);
})

pub resume_counted : (old : Tally) (m : Note) (f : FlowId) (b : BufferId) → m ≡ note.Resume f b → Counted old m old
resume_counted old m f b e = counted_as old old m (note.Resume f b) e (record {
  streams = no_more old.streams;
  received = no_more old.received;
  sent = no_more old.sent;
  pauses = no_more old.pauses;
  resets = no_more old.resets;
  write = unwritten_goes old.write (note.Resume f b) (λ c g k l q. cc) (λ c k q. cc);
})

-- ---- note after note

pub tally_none : (t : Tally) → TallyGoes t [] t
tally_none t = record { goes = λ limits h l a. a }

pub tally_more : (a b c : Tally) (ns ms : List Note) → TallyGoes a ns b → TallyGoes b ms c → TallyGoes a (ns ++ ms) c
tally_more a b c ns ms p q = record {
  goes = λ limits h law l.
      let P : History NoMark → Type 0 = λ v. TallyIs limits c v in
      let L : History NoMark → Type 0 = λ v. IsPlainLawful limits v in
      let law2 : IsPlainLawful limits (onto ms (onto ns h)) = subst L (onto_more ns ms h) law in
      subst P (sym (onto_more ns ms h)) (q.goes limits (onto ns h) law2 (p.goes limits h (lawful_back limits ms (onto ns h) law2) l));
}

pub all_tallied : (a b : Tally) (notes done rest : List Note) → notes ≡ done ++ rest → rest ≡ [] → TallyGoes a done b → TallyGoes a notes b
all_tallied a b notes done rest e none l =
    let P : List Note → Type 0 = λ v. TallyGoes a v b in
    subst P (sym (e ∙ ap (λ (v : List Note). done ++ v) none ∙ append-nil done)) l

-- ---- rows

abbrev with_pauses : Tally → ℕ → Tally
with_pauses t n = record t { pauses = n }

pub pauses_tallied : (a : Tally) (fs : List FlowId) (b : BufferId) (n : ℕ) → n ≡ a.pauses + length fs → TallyGoes a (map (λ f. note.Pause f b) fs) (with_pauses a n)
pauses_tallied a [] b n e =
    let same : a.pauses ≡ n = omega (arith, e) in
    let P : ℕ → Type 0 = λ v. TallyGoes a [] (with_pauses a v) in
    subst P same (tally_none a)
pauses_tallied a (f ∷ fs) b n e =
    let c = with_pauses a (a.pauses + 1) in
    let rest : n ≡ c.pauses + length fs = omega (arith, e) in
    tally_more a c (with_pauses a n) (note.Pause f b ∷ []) (map (λ f. note.Pause f b) fs) (counted_goes a c (note.Pause f b) (pause_counted a (note.Pause f b) f b (a.pauses + 1) refl refl)) (pauses_tallied c fs b n rest)

pub resumes_tallied : (a : Tally) (fs : List FlowId) (b : BufferId) → TallyGoes a (map (λ f. note.Resume f b) fs) a
resumes_tallied a [] b = tally_none a
resumes_tallied a (f ∷ fs) b =
    tally_more a a a (note.Resume f b ∷ []) (map (λ f. note.Resume f b) fs) (counted_goes a a (note.Resume f b) (resume_counted a (note.Resume f b) f b refl)) (resumes_tallied a fs b)

-- ---- passages

tally_as : (a c : Tally) (p q : Passage) → p ≡ q → TallyGoes a (notes_of_passage q) c → TallyGoes a (notes_of_passage p) c
tally_as a c p q e g = let P : Passage → Type 0 = λ v. TallyGoes a (notes_of_passage v) c in subst P (sym e) g

pub one_tallied : (a c : Tally) (p : Passage) (n : Bor Note) (r : Result (Unit {0}) NoMemory) → p ≡ passage.One n → OnOk r (Counted a n.now c) → OnOk r (TallyGoes a (notes_of_passage p) c)
one_tallied a c p n r e k = on_ok_weaker r (λ q. tally_as a c p (passage.One n) e (counted_goes a c n.now q)) k

pub pause_row_tallied : (a : Tally) (p : Passage) (fs : Bor (List FlowId)) (b : BufferId) (n : ℕ) → p ≡ passage.Pauses fs b → n ≡ a.pauses + length fs.now
    → TallyGoes a (notes_of_passage p) (with_pauses a n)
pause_row_tallied a p fs b n e sum = tally_as a (with_pauses a n) p (passage.Pauses fs b) e (pauses_tallied a fs.now b n sum)

pub resume_row_tallied : (a : Tally) (p : Passage) (fs : Bor (List FlowId)) (b : BufferId) → p ≡ passage.Resumes fs b → TallyGoes a (notes_of_passage p) a
resume_row_tallied a p fs b e = tally_as a a p (passage.Resumes fs b) e (resumes_tallied a fs.now b)

-- ---- the text

pub tally_spelled : (limits : PlainLimits) (t : Tally) (h : History NoMark) → TallyIs limits t h → tally_text t ≡ short_summary limits h
tally_spelled limits t h k = rw (k.streams_are, k.received_is, k.sent_is, k.write_is, k.pauses_are, k.resets_are) refl
