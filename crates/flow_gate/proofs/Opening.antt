-- What a flow writes that begins with its send buffer and a write buffer.
use Rattle.flow_gate.proofs.Calls.{buffer_opened, flow_opened, nothing}
use Rattle.flow_gate.proofs.CallsEnds.{watch_begun}
use Rattle.flow_gate.proofs.Counting.{count-append, count-cons}
use Rattle.flow_gate.proofs.Leaving.{map-append}
use Rattle.flow_gate.proofs.Places.{others-none, others_of}
use Rattle.flow_gate.proofs.Reading.{above_in, counted-board, is_known-board, is_marked-board, is_open-board, pending-board, pending_in, watched-board, watched_at, watchers-board, watchers_in}
use Rattle.flow_gate.proofs.SameIds.{same_buffer-comm, same_buffer_exact, same_flow-comm, same_flow-refl}
use Rattle.flow_gate.proofs.Placed.{at_place-last, gates_same, line_in, watches_in}
use Rattle.flow_gate.specs.Board.{Board, IsSound, count, is_known, is_marked, is_open, pending_on, times, times_of_buffer, watched_by, watchers_of}
use Rattle.flow_gate.specs.Books.{Books}
use Rattle.flow_gate.specs.Changes.{Begins, IsSeenAs, Knows, Opens, Same, Watches}
use Rattle.flow_gate.specs.Ids.{same_buffer, same_flow}
use Rattle.flow_gate.specs.Line.{Line, Places, alone, at_place, left, longer}
use Rattle.flow_gate.specs.Named.{Updates}
use Rattle.flow_gate.specs.Parts.{AreGates, Buffers, Flows, IsApart, Joins, board_of, buffer_at, flow_at}
use Rattle.flow_rules.specs.declared.ids.BufferId.{BufferId}
use Rattle.flow_rules.specs.declared.ids.BufferId.TheVariants as buffer
use Rattle.flow_rules.specs.declared.ids.FlowId.{FlowId}
use Rattle.std.proofs.Common.{ap, arith, inl, inr, refl, subst, sym, ◌∙◌}
use Rattle.std.proofs.lemmas.Bool.{cases_Bool, false_from_ne_true}
use Rattle.std.specs.Map.{lookup, values_of}
use Rattle.std.specs.Prelude.{Bool, IfSome, IsSome, List, None, Option, Some, [], cond, count_by, false, is_some, not, sum_by, true, ℕ, ◌++◌, ◌+◌, ◌∷◌, ◌≡◌, ◌≤◌}

-- ---- writes at one name
module _ {K X : Type 0} (same : K → K → Bool) where
  -- what stands first is found first
  pub put_first : ((j k : K) → same j k ≡ same k j) → (k : K) (x : X) (old : List (K × X)) → Updates same k (Some x) old ((k, x) ∷ old)
  put_first flips k x old q = ap (λ t. cond t (Some x) (lookup (same q) old)) (flips q k)

  -- the last of two writes is what is found
  pub written_over : (k : K) (w v : Option X) (old mid new : List (K × X)) → Updates same k w old mid → Updates same k v old new → Updates same k v mid new
  written_over k w v old mid new first second q = second q ∙ either (same k q) (lookup (same q) old) ∙ sym (ap (λ o. cond (same k q) v o) (first q))
    where
      either : (t : Bool) (o : Option X) → cond t v o ≡ cond t v (cond t w o)
      either true o = refl
      either false o = refl

-- ---- the steps of it
module _ (f : FlowId) (p c : ℕ) (above : Bool) (flows flows' : Flows) (buffers joined buffers' : Buffers)
    (shut : is_open (board_of flows buffers) f ≡ false) (unknown : is_known (board_of flows buffers) (buffer.Send f) ≡ false)
    (lined : Updates same_buffer (buffer.Send f) (Some (alone p f)) buffers joined) (j : Joins f p c above flows flows' joined buffers') (gates : AreGates flows buffers) where
  abbrev no_watch : Books
  no_watch = record { watches = []; room = 0 }

  abbrev one_watch : Books
  one_watch = record { watches = (record { buffer = buffer.Send f; place = p }) ∷ []; room = 0 }

  abbrev no_line : Line
  no_line = record { above = false; watchers = []; pending = [] }

  abbrev begun_flows : Flows
  begun_flows = (f, no_watch) ∷ flows

  abbrev watching_flows : Flows
  watching_flows = (f, one_watch) ∷ begun_flows

  abbrev known_buffers : Buffers
  known_buffers = (buffer.Send f, no_line) ∷ buffers

  first_begun : Updates same_flow f (Some no_watch) flows begun_flows
  first_begun = put_first same_flow same_flow-comm f no_watch flows

  first_watching : Updates same_flow f (Some one_watch) begun_flows watching_flows
  first_watching = put_first same_flow same_flow-comm f one_watch begun_flows

  first_known : Updates same_buffer (buffer.Send f) (Some no_line) buffers known_buffers
  first_known = put_first same_buffer same_buffer-comm (buffer.Send f) no_line buffers

  at_first : (books : Books) (rest : Flows) → Some books ≡ flow_at ((f, books) ∷ rest) f
  at_first books rest = sym (ap (λ t. cond t (Some books) (flow_at rest f)) (same_flow-refl f))

  line_first : Some no_line ≡ buffer_at known_buffers (buffer.Send f)
  line_first = sym (ap (λ t. cond t (Some no_line) (buffer_at buffers (buffer.Send f))) (same_flow-refl f))

  begins : Begins f (board_of flows buffers) (board_of begun_flows buffers) × AreGates begun_flows buffers
  begins = flow_opened f no_watch flows begun_flows buffers shut refl first_begun gates

  knows : Knows (buffer.Send f) (board_of begun_flows buffers) (board_of begun_flows known_buffers) × AreGates begun_flows known_buffers
  knows = buffer_opened (buffer.Send f) no_line begun_flows buffers known_buffers (begins.0.buffers (buffer.Send f) ∙ unknown) refl first_known begins.1

  nobody : times f (watchers_of (board_of begun_flows known_buffers) (buffer.Send f)) ≡ 0
  nobody = ap (times f) (watchers-board begun_flows known_buffers (buffer.Send f) ∙ ap watchers_in (sym line_first))

  watches_send : Watches f (buffer.Send f) (board_of begun_flows known_buffers) (board_of watching_flows joined) × AreGates watching_flows joined
  watches_send = watch_begun f (buffer.Send f) p no_watch one_watch no_line (alone p f) begun_flows watching_flows known_buffers joined
      (at_first no_watch flows) line_first refl (omega arith) refl first_watching refl
      (written_over same_buffer (buffer.Send f) (Some no_line) (Some (alone p f)) buffers known_buffers joined first_known lined) nobody knows.1

  elsewhere : times f (watchers_of (board_of watching_flows joined) (buffer.Write c)) ≡ 0
  elsewhere = watches_send.1.sound.paired f (buffer.Write c)
      ∙ ap (times_of_buffer (buffer.Write c)) (watched-board watching_flows joined f ∙ ap watched_at (sym (at_first one_watch begun_flows)))

  watches_write : Watches f (buffer.Write c) (board_of watching_flows joined) (board_of flows' buffers') × AreGates flows' buffers'
  watches_write = watch_begun f (buffer.Write c) j.place one_watch j.books j.line (longer j.place f j.line) watching_flows flows' joined buffers'
      (at_first one_watch begun_flows) (sym j.found) j.free (omega arith) j.watches
      (written_over same_flow f (Some one_watch) (Some j.books) begun_flows watching_flows flows' first_watching
      (written_over same_flow f (Some no_watch) (Some j.books) flows begun_flows flows' first_begun j.there))
      refl j.stands elsewhere watches_send.1

  pub sender_opened : Opens f c (board_of flows buffers) (board_of flows' buffers') × AreGates flows' buffers'
  sender_opened = (
    record {
      begun = board_of begun_flows buffers;
      known = board_of begun_flows known_buffers;
      watching = board_of watching_flows joined;
      begins = begins.0;
      knows = knows.0;
      watches_send = watches_send.0;
      watches_write = watches_write.0;
    },
    watches_write.1,
  )

  pub sender_held : above ≡ is_marked (board_of flows buffers) (buffer.Write c)
  sender_held = j.is_above ∙ ap above_in (sym j.found) ∙ ap above_in (lined (buffer.Write c)) ∙ sym (is_marked-board flows buffers (buffer.Write c))

-- ---- a flow that isn't there stands in no line
pub apart_shut : (f : FlowId) (p c : ℕ) (flows : Flows) (buffers joined : Buffers) → is_open (board_of flows buffers) f ≡ false →
    Updates same_buffer (buffer.Send f) (Some (alone p f)) buffers joined → AreGates flows buffers → IfSome (buffer_at joined (buffer.Write c)) (IsApart f)
apart_shut f p c flows buffers joined shut lined gates = each (buffer_at joined (buffer.Write c))
    (ap (λ o. times f (watchers_in o)) (lined (buffer.Write c)) ∙ ap (times f) (sym (watchers-board flows buffers (buffer.Write c))) ∙ zero)
    (ap (λ o. times f (pending_in o)) (lined (buffer.Write c)) ∙ ap (times f) (sym (pending-board flows buffers (buffer.Write c))) ∙ none)
  where
    zero : times f (watchers_of (board_of flows buffers) (buffer.Write c)) ≡ 0
    zero = gates.sound.paired f (buffer.Write c)
        ∙ ap (times_of_buffer (buffer.Write c)) (watched-board flows buffers f ∙ ap watched_at (nothing (flow_at flows f) (sym (is_open-board flows buffers f) ∙ shut)))

    none : times f (pending_on (board_of flows buffers) (buffer.Write c)) ≡ 0
    none = omega (arith, zero, gates.sound.pending f (buffer.Write c))

    each : (o : Option Line) → times f (watchers_in o) ≡ 0 → times f (pending_in o) ≡ 0 → IfSome o (IsApart f)
    each None w p = tt
    each (Some line) w p = record { watchers = w; pending = p }

pub write_there : (f : FlowId) (p c : ℕ) (flows : Flows) (buffers joined : Buffers) → is_known (board_of flows buffers) (buffer.Write c) ≡ true →
    Updates same_buffer (buffer.Send f) (Some (alone p f)) buffers joined → IsSome (buffer_at joined (buffer.Write c))
write_there f p c flows buffers joined known lined = ap is_some (lined (buffer.Write c)) ∙ sym (is_known-board flows buffers (buffer.Write c)) ∙ known

-- ---- a flow that came last and leaves again
others_last : (f : FlowId) (q : ℕ) (es : Places) → times f (values_of es) ≡ 0 → others_of f (es ++ (q, f) ∷ []) ≡ es
others_last f q [] none = ap (λ t. cond (not t) ((q, f) ∷ []) []) (same_flow-refl f)
others_last f q (e ∷ es) none =
    let both = others-none f (e ∷ es) none in
    let other : same_flow f e.1 ≡ false = false_from_ne_true (same_flow f e.1) (λ h.
    let one : cond (same_flow f e.1) 1 0 ≡ 1 = ap {B = ℕ} (λ b. cond b 1 0) h in omega (arith, one, none, count-cons (same_flow f) e.1 (values_of es))) in
    ap (λ b. cond (not b) (e ∷ others_of f (es ++ (q, f) ∷ [])) (others_of f (es ++ (q, f) ∷ []))) other
    ∙ ap (λ xs. e ∷ xs) (others_last f q es (omega (arith, none, count-cons (same_flow f) e.1 (values_of es))))

pub left_again : (f : FlowId) (q : ℕ) (line : Line) → IsApart f line → left f (longer q f line) ≡ line
left_again f q line apart = λ i. record { above = line.above; watchers = others_last f q line.watchers apart.watchers i; pending = others-none f line.pending apart.pending i }

-- the line of a write buffer is as before once the flow that came last left it again
pub left_back : (f : FlowId) (c q : ℕ) (gate added gone : Line) (old new : Buffers) → Some gate ≡ buffer_at old (buffer.Write c) → at_place q gate.watchers ≡ None →
    added ≡ longer q f gate → ((g : FlowId) → at_place q added.watchers ≡ Some g → times g (values_of added.watchers) ≤ 1 → gone ≡ left g added) →
    Updates same_buffer (buffer.Write c) (Some gone) old new → IfSome (buffer_at old (buffer.Write c)) (IsApart f) → (b : BufferId) → buffer_at new b ≡ buffer_at old b
left_back f c q gate added gone old new found free is removes updated apart b =
    let quiet : IsApart f gate = subst (λ o. IfSome o (IsApart f)) (sym found) apart in
    let at : at_place q added.watchers ≡ Some f = ap (λ l. at_place q l.watchers) is ∙ at_place-last q gate.watchers f free in
    let same : times f (values_of added.watchers) ≡ times f (values_of (gate.watchers ++ (q, f) ∷ [])) = ap (λ l. times f (values_of l.watchers)) is in
    let sum : times f (values_of (gate.watchers ++ (q, f) ∷ [])) ≡ times f (values_of gate.watchers) + times f (f ∷ []) =
    ap (times f) (map-append (λ (e : ℕ × FlowId). e.1) gate.watchers ((q, f) ∷ [])) ∙ count-append (same_flow f) (values_of gate.watchers) (f ∷ []) in
    let last : times f (f ∷ []) ≡ 1 = ap {B = ℕ} (λ t. 0 + cond t 1 0) (same_flow-refl f) in
    let back : gone ≡ gate = removes f at (omega (arith, same, sum, last, quiet.watchers)) ∙ ap (left f) is ∙ left_again f q gate quiet in
    updated b ∙ ap (λ l. cond (same_buffer (buffer.Write c) b) (Some l) (buffer_at old b)) back ∙ elim (cases_Bool (same_buffer (buffer.Write c) b)) [
      | inl here ↦ ap (λ t. cond t (Some gate) (buffer_at old b)) here ∙ found ∙ ap (buffer_at old) (same_buffer_exact (buffer.Write c) b here)
      | inr other ↦ ap (λ t. cond t (Some gate) (buffer_at old b)) other
    ]

-- ---- nothing is seen to have changed
pub seen_as : (flows flows' : Flows) (buffers buffers' : Buffers) → flows' ≡ flows → ((b : BufferId) → buffer_at buffers' b ≡ buffer_at buffers b) → AreGates flows buffers →
    IsSeenAs (board_of flows buffers) (board_of flows' buffers') × AreGates flows' buffers'
seen_as flows flows' buffers buffers' same lines gates = (
  record { flows = opens; counts = counts; watched = watched; buffers = known; marks = marks; watchers = watchers; pending = pending },
  gates_same flows flows' buffers buffers' sound (λ g. ap (λ fs. watches_in (flow_at fs g)) same) (λ b. ap line_in (lines b)) gates,
)
  where
    old : Board
    old = board_of flows buffers

    new : Board
    new = board_of flows' buffers'

    opens : Same is_open old new
    opens g = is_open-board flows' buffers' g ∙ ap (λ fs. is_some (flow_at fs g)) same ∙ sym (is_open-board flows buffers g)

    watched : Same watched_by old new
    watched g = watched-board flows' buffers' g ∙ ap (λ fs. watched_at (flow_at fs g)) same ∙ sym (watched-board flows buffers g)

    known : Same is_known old new
    known b = is_known-board flows' buffers' b ∙ ap is_some (lines b) ∙ sym (is_known-board flows buffers b)

    marks : Same is_marked old new
    marks b = is_marked-board flows' buffers' b ∙ ap above_in (lines b) ∙ sym (is_marked-board flows buffers b)

    watchers : Same watchers_of old new
    watchers b = watchers-board flows' buffers' b ∙ ap watchers_in (lines b) ∙ sym (watchers-board flows buffers b)

    pending : Same pending_on old new
    pending b = pending-board flows' buffers' b ∙ ap pending_in (lines b) ∙ sym (pending-board flows buffers b)

    counts : Same count old new
    counts g = counted-board flows' buffers' g
        ∙ (λ i. count_by (λ b. marks b i) (watched g i) + sum_by (λ b. times g (pending b i)) (watched g i))
        ∙ sym (counted-board flows buffers g)

    sound : IsSound new
    sound = record {
      counted = counted-board flows' buffers';
      paired = λ g b. ap (times g) (watchers b) ∙ gates.sound.paired g b ∙ sym (ap (times_of_buffer b) (watched g));
      once = λ g b. let w = ap (times g) (watchers b) in omega (arith, w, gates.sound.once g b);
      pending = λ g b. let w = ap (times g) (watchers b) in let p = ap (times g) (pending b) in omega (arith, w, p, gates.sound.pending g b);
    }

-- the send buffer that was lined up is gone again
pub taken_back : (f : FlowId) (p : ℕ) (flows : Flows) (buffers joined kept new : Buffers) → is_known (board_of flows buffers) (buffer.Send f) ≡ false →
    Updates same_buffer (buffer.Send f) (Some (alone p f)) buffers joined → ((b : BufferId) → buffer_at kept b ≡ buffer_at joined b) →
    Updates same_buffer (buffer.Send f) None kept new → (b : BufferId) → buffer_at new b ≡ buffer_at buffers b
taken_back f p flows buffers joined kept new unknown lined same gone b =
    gone b ∙ ap (λ o. cond (same_buffer (buffer.Send f) b) None o) (same b ∙ lined b) ∙ elim (cases_Bool (same_buffer (buffer.Send f) b)) [
      | inl here ↦ ap (λ t. cond t None (cond t (Some (alone p f)) (buffer_at buffers b))) here
          ∙ sym (nothing (buffer_at buffers (buffer.Send f)) (sym (is_known-board flows buffers (buffer.Send f)) ∙ unknown)) ∙ ap (buffer_at buffers) (same_buffer_exact (buffer.Send f) b here)
      | inr other ↦ ap (λ t. cond t None (cond t (Some (alone p f)) (buffer_at buffers b))) other
    ]
