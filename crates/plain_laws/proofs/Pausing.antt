-- The next pause that is due is written.
use Rattle.plain_laws.specs.Words.{Past, Alive, conn_lows, conn_out, lows_of}
use Rattle.tape_laws.specs.Doomed.{is_swept}
use Rattle.flow_rules.specs.declared.ids.BufferId.{BufferId}
use Rattle.flow_rules.specs.declared.ids.FlowId.{FlowId}
use Rattle.plain_laws.proofs.Extending.{MayAdd, regular_more}
use Rattle.plain_laws.proofs.Leaving.{Leaves, lows_kept, once_kept, room_kept, send_low_kept, unborn_kept}
use Rattle.plain_laws.proofs.Streams.{apart_from}
use Rattle.plain_laws.specs.Owing.{Owing, nothing, owed, pause_notes}
use Rattle.plain_laws.specs.Regular.{Books, FlowBooks, IsLiveFlow, Regular}
use Rattle.std.proofs.Math.Nat.{zero-add}
use Rattle.std.proofs.Common.{refl, subst, sym, ◌∙◌}
use Rattle.std.specs.List.{AllByRecursion}
use Rattle.std.specs.Prelude.{List, [], false, ℕ, ◌==◌, ◌∷◌, ◌≡◌}
use Rattle.tape_laws.specs.Dispatches.{live, started}
use Rattle.tape_laws.specs.Flows.{request}
use Rattle.tape_laws.specs.History.{NoMark, Noted, Step, onto}
use Rattle.tape_laws.specs.Pauses.{Heads, Owed, pauses}
use Rattle.tape_laws.specs.declared.PlainLimits.{PlainLimits}
use Rattle.flow_notes.specs.declared.notes.Note.TheVariants as note

module _ (limits : PlainLimits) (owing : Owing) (f : FlowId) (b : BufferId) (rest : List Owed) where
  pause_may : (h : Past) → Books limits owing h → is_swept h ≡ false
      → owing.due ≡ record { flow = f; buffer = b } ∷ rest → Alive h f.exchange → MayAdd limits (note.Pause f b) h
  pause_may h s fresh e is = record {
    allowed = tt;
    paused = subst (Heads (record { flow = f; buffer = b })) (sym (s.due ∙ e)) refl;
    ends = tt;
    in_turn = tt;
    doomed = is;
    swept = fresh;
    answered = tt;
    only = tt;
    quiet = tt;
    licensed = tt;
  }

  -- the books of each stream: what is owed becomes what was paused
  pause_flow : (x : ℕ) (h : Past) → FlowBooks limits owing x h → FlowBooks limits (record owing { due = rest }) x (Noted (note.Pause f b) ∷ h)
  pause_flow x h s =
      let step : Step NoMark = Noted (note.Pause f b) in
      let lows_is : lows_of limits x (step ∷ h) ≡ lows_of limits x h = refl in
      record {
        send_low = send_low_kept limits x step h refl lows_is s.send_low;
        recv_room = s.recv_room;
        send_room = s.send_room;
        read = s.read;
        over = s.over;
        unframed = s.unframed;
      }

pub pause_leaves : (limits : PlainLimits) (f : FlowId) (b : BufferId) (x : ℕ) (h : Past) → (f.exchange == x) ≡ false → Leaves limits x (Noted (note.Pause f b)) h
pause_leaves limits f b x h e = record {
  recv = refl;
  send = refl;
  send_lows = refl;
  paused = cc (zero-add (pauses (request x) h));
  resumed = refl;
  body = refl;
  received = refl;
  framed = refl;
}

pause_books : (limits : PlainLimits) (owing : Owing) (f : FlowId) (b : BufferId) (rest : List Owed) (h : Past) → Books limits owing h
    → owing.due ≡ record { flow = f; buffer = b } ∷ rest → AllByRecursion (λ (o : Owed). IsLiveFlow (live h) o.flow) (record { flow = f; buffer = b } ∷ rest)
    → Books limits (record owing { due = rest }) (Noted (note.Pause f b) ∷ h)
pause_books limits owing f b rest h s e l =
    let step : Step NoMark = Noted (note.Pause f b) in
    let out_same : conn_out limits (step ∷ h) ≡ conn_out limits h = refl in
    let lows_same : conn_lows limits (step ∷ h) ≡ conn_lows limits h = refl in
    record {
      due = cc;
      asks = s.asks;
      opened = s.opened;
      known = s.known;
      unclosed = s.unclosed;
      write_room = room_kept limits out_same s.write_room;
      rising = s.rising;
      born = s.born;
      said = s.said;
      each = λ y is. pause_flow limits owing f b rest y h (s.each y is);
      unborn = λ y new. let d = apart_from (started h) f.exchange y (s.born f.exchange l.0.live) new in
          unborn_kept limits y step h (pause_leaves limits f b y h d) (record { ended = refl; pairs = refl; must = refl }) (s.unborn y new);
      owed = l.1;
      write_lows = lows_kept (live h) lows_same s.write_lows;
      write_once = once_kept lows_same s.write_once;
      hushed = λ y is. s.hushed y is;
    }

module _ (limits : PlainLimits) where
  pub pause_regular : (owing : Owing) (f : FlowId) (b : BufferId) (rest : List Owed) (h : Past) → Regular limits owing h → is_swept h ≡ false
      → owing.due ≡ record { flow = f; buffer = b } ∷ rest → Regular limits (record owing { due = rest }) (Noted (note.Pause f b) ∷ h)
  pause_regular owing f b rest h r fresh e =
      let l = subst (AllByRecursion (λ (o : Owed). IsLiveFlow (live h) o.flow)) e r.books.owed in
      regular_more limits owing (record owing { due = rest }) (note.Pause f b) h r (pause_may limits owing f b rest h r.books fresh e l.0.live) (pause_books limits owing f b rest h r.books e l)

  -- all that are due
  pub pauses_regular : (due : List Owed) (h : Past) → Regular limits (owed due) h → is_swept h ≡ false → Regular limits nothing (onto (pause_notes due) h)
  pauses_regular [] h r fresh = r
  pauses_regular (o ∷ due) h r fresh =
      pauses_regular due (Noted (note.Pause o.flow o.buffer) ∷ h) (pause_regular (owed (o ∷ due)) o.flow o.buffer due h r fresh refl) refl
