-- Note by note: the flow to a connection in a live pair is paused as often as its write buffer rose since the pair's start, and
-- resumed as often as that drained, once it was told.
use Rattle.flow_rules.specs.declared.ids.FlowId.{FlowId}
use Rattle.flow_notes.specs.declared.events.Event.{Event}
use Rattle.flow_notes.specs.declared.notes.Note.{Note}
use Rattle.relay_laws.specs.Lawful.{ArePaused, AreResumed, IsPaused}
use Rattle.relay_laws.specs.Pairs.{Tape, feed, goes_to, opposite, pairs, unless_doomed}
use Rattle.relay_laws.specs.Sound.{IsPaired, IsSound}
use Rattle.relay_laws.specs.Watermark.{above, drains, drains_at, rises, rises_at}
use Rattle.relay_laws.specs.World.{out}
use Rattle.relay_laws.specs.declared.Feed.{Feed}
use Rattle.std.proofs.Common.{ap, append-nil, arith, refl, subst, sym, ◌∙◌}
use Rattle.std.proofs.lemmas.Bool.Decides.{nat_tests}
use Rattle.std.proofs.lemmas.List.{length-drop}
use Rattle.std.proofs.lemmas.Option.{same_Some}
use Rattle.std.specs.Prelude.{Bool, List, None, Option, Some, [], drop, false, if◌then◌else◌, length, not, true, ℕ, ◌&&◌, ◌+◌, ◌++◌, ◌-◌, ◌<◌, ◌==◌, ◌∷◌, ◌≡◌, ◌≤◌}
use Rattle.tape_laws.specs.Dispatches.{is_some_of}
use Rattle.tape_laws.specs.Flows.{request, response, same_flow}
use Rattle.tape_laws.specs.History.{BeforeOthers, BeforeTurn, EachFollows, Noted, onto}
use Rattle.tape_laws.specs.Pauses.{pauses, resumes}
use Rattle.tcp_relay.proofs.Dooms.{one_of}
use Rattle.tcp_relay.proofs.Evens.{IsEven, Unused, apart, opposite_twice, same_self}
use Rattle.tcp_relay.proofs.Flags.{above_empty, above_less, above_same}
use Rattle.tcp_relay.proofs.Shapes.{close_if, pause_if, resume_if}
use Rattle.tcp_relay.proofs.Sounds.{left_feed}
use Rattle.tcp_relay.proofs.Tests.{by_case, for_some, if_some, no_some, number_is, same_number}
use Rattle.wm_buffer.specs.Watermark.{above_after}
use Rattle.flow_rules.specs.declared.ids.BufferId.TheVariants as buffer
use Rattle.flow_rules.specs.declared.causes.Cause.TheVariants as cause
use Rattle.flow_notes.specs.declared.notes.CloseCause.TheVariants as closed
use Rattle.flow_notes.specs.declared.notes.Note.TheVariants as note

abbrev one_if : Bool → ℕ
one_if b = if b then 1 else 0

-- settled: what stood was as it has to be, and each drain has been told
pub record IsTold (limit : ℕ) (h : Tape) : Type 0 where
  pub at : ArePaused limit h
  pub told : AreResumed limit h
  pub follows : EachFollows (BeforeOthers (ArePaused limit)) h
  pub ends : EachFollows (BeforeTurn (AreResumed limit)) h

paused_at : (limit : ℕ) (h : Tape) (c : ℕ) (f : Feed) → ArePaused limit h → feed c h ≡ Some f → IsPaused limit h c f
paused_at limit h c f a e = if_some (feed c h) (IsPaused limit h c) f e (a c)

resumed_at : (limit : ℕ) (h : Tape) (c : ℕ) (f : Feed) → AreResumed limit h → feed c h ≡ Some f → resumes (opposite f.flow) h ≡ drains limit f.flow.exchange c h
resumed_at limit h c f a e = if_some (feed c h) (λ g. resumes (opposite g.flow) h ≡ drains limit g.flow.exchange c h) f e (a c)

-- ---- flags that stay
no_rise : (a b : Bool) → b ≡ a → (not a && b) ≡ false
no_rise true b e = refl
no_rise false b e = e

no_drain : (a b : Bool) → b ≡ a → (a && not b) ≡ false
no_drain true b e = ap (λ z. not z) e
no_drain false b e = refl

none_more : (b : Bool) (n : ℕ) → b ≡ false → one_if b + n ≡ n
none_more b n e = ap (λ z. one_if z + n) e ∙ zero_more n
  where
    zero_more : (n : ℕ) → 0 + n ≡ n
    zero_more n = omega arith

-- a note that leaves the pairs' write buffers, and pauses and resumes nobody
record IsCalm (limit : ℕ) (n : Note) (h : Tape) : Type 0 where
  fed : (c : ℕ) (f : Feed) → feed c (Noted n ∷ h) ≡ Some f → feed c h ≡ Some f
  level : (c : ℕ) (f : Feed) → feed c (Noted n ∷ h) ≡ Some f → above limit c (Noted n ∷ h) ≡ above limit c h
  rises : (x c : ℕ) → rises limit x c (Noted n ∷ h) ≡ one_if (rises_at limit c (Noted n) h) + rises limit x c h
  drains : (x c : ℕ) → drains limit x c (Noted n ∷ h) ≡ one_if (drains_at limit c (Noted n) h) + drains limit x c h
  pauses : (g : FlowId) → pauses g (Noted n ∷ h) ≡ pauses g h
  resumes : (g : FlowId) → resumes g (Noted n ∷ h) ≡ resumes g h

module _ (limit : ℕ) (n : Note) (h : Tape) (k : IsCalm limit n h) where
  same_rises : (c : ℕ) (f : Feed) → feed c (Noted n ∷ h) ≡ Some f → rises limit f.flow.exchange c (Noted n ∷ h) ≡ rises limit f.flow.exchange c h
  same_rises c f e = k.rises f.flow.exchange c
      ∙ none_more (rises_at limit c (Noted n) h) (rises limit f.flow.exchange c h) (no_rise (above limit c h) (above limit c (Noted n ∷ h)) (k.level c f e))

  same_drains : (c : ℕ) (f : Feed) → feed c (Noted n ∷ h) ≡ Some f → drains limit f.flow.exchange c (Noted n ∷ h) ≡ drains limit f.flow.exchange c h
  same_drains c f e = k.drains f.flow.exchange c
      ∙ none_more (drains_at limit c (Noted n) h) (drains limit f.flow.exchange c h) (no_drain (above limit c h) (above limit c (Noted n ∷ h)) (k.level c f e))

  calm_at : ArePaused limit h → ArePaused limit (Noted n ∷ h)
  calm_at a = λ c. for_some (feed c (Noted n ∷ h)) (IsPaused limit (Noted n ∷ h) c) (λ f e.
      let p : IsPaused limit h c f = paused_at limit h c f a (k.fed c f e) in
      record {
        pauses = k.pauses (opposite f.flow) ∙ p.pauses ∙ sym (same_rises c f e);
        resumes = subst (λ z. z ≤ drains limit f.flow.exchange c (Noted n ∷ h)) (sym (k.resumes (opposite f.flow)))
            (subst (λ z. resumes (opposite f.flow) h ≤ z) (sym (same_drains c f e)) p.resumes);
      })

  calm_told : AreResumed limit h → AreResumed limit (Noted n ∷ h)
  calm_told a = λ c. for_some (feed c (Noted n ∷ h)) (λ f. resumes (opposite f.flow) (Noted n ∷ h) ≡ drains limit f.flow.exchange c (Noted n ∷ h)) (λ f e.
      k.resumes (opposite f.flow) ∙ resumed_at limit h c f a (k.fed c f e) ∙ sym (same_drains c f e))

  calm : BeforeOthers (ArePaused limit) (Noted n) h → BeforeTurn (AreResumed limit) (Noted n) h → IsTold limit h → IsTold limit (Noted n ∷ h)
  calm b t w = record { at = calm_at w.at; told = calm_told w.told; follows = (b, w.follows); ends = (t, w.ends) }

pub told_turn : (limit k : ℕ) (e : Event) (h : Tape) → IsTold limit h → IsTold limit (Noted (note.Turn k e) ∷ h)
told_turn limit k e h w = calm limit (note.Turn k e) h (record {
  fed = λ c f q. q;
  level = λ c f q. above_same limit c (Noted (note.Turn k e)) h refl;
  rises = λ x c. refl;
  drains = λ x c. refl;
  pauses = λ g. refl;
  resumes = λ g. refl;
}) w.at w.told w

pub told_close : (limit : ℕ) (b : Bool) (c : ℕ) (h : Tape) → IsTold limit h → IsTold limit (onto (close_if b c) h)
told_close limit true c h w = calm limit (note.Close c 0 closed.Drained) h (record {
  fed = λ d f q. q;
  level = λ d f q. above_same limit d (Noted (note.Close c 0 closed.Drained)) h refl;
  rises = λ x d. refl;
  drains = λ x d. refl;
  pauses = λ g. refl;
  resumes = λ g. refl;
}) w.at tt w
told_close limit false c h w = w

pub told_overload : (limit c : ℕ) (h : Tape) → IsTold limit h → IsTold limit (Noted (note.Close c 0 closed.Overload) ∷ h)
told_overload limit c h w = calm limit (note.Close c 0 closed.Overload) h (record {
  fed = λ d f q. q;
  level = λ d f q. above_same limit d (Noted (note.Close c 0 closed.Overload)) h refl;
  rises = λ x d. refl;
  drains = λ x d. refl;
  pauses = λ g. refl;
  resumes = λ g. refl;
}) w.at tt w

pub told_gone : (limit x : ℕ) (h : Tape) → IsTold limit h → IsTold limit (Noted (note.Gone x) ∷ h)
told_gone limit x h w = calm limit (note.Gone x) h (record {
  fed = λ d f q. q;
  level = λ d f q. above_same limit d (Noted (note.Gone x)) h refl;
  rises = λ y d. refl;
  drains = λ y d. refl;
  pauses = λ g. refl;
  resumes = λ g. refl;
}) w.at tt w

-- a connection without a pair is lost
pub told_lost : (limit c : ℕ) (h : Tape) → feed c h ≡ None → IsTold limit h → IsTold limit (Noted (note.Close c 0 closed.Lost) ∷ h)
told_lost limit c h none w = calm limit (note.Close c 0 closed.Lost) h (record {
  fed = λ d f q. q;
  level = λ d f q. above_same limit d (Noted (note.Close c 0 closed.Lost)) h
      (ap (λ b. if b then [] else out d h) (by_case (c == d) (λ t. no_some (feed c h) f none (ap (λ y. feed y h) (number_is c d t) ∙ q)) (λ n. n)));
  rises = λ x d. refl;
  drains = λ x d. refl;
  pauses = λ g. refl;
  resumes = λ g. refl;
}) w.at tt w

-- ---- a connection of a pair is lost, and its pair is doomed
and_none : (a : Bool) → (a && false) ≡ false
and_none true = refl
and_none false = refl

at_most_more : (r d o : ℕ) → r ≡ d → r ≤ o + d
at_most_more r d o e = omega (arith, e)

module _ (limit c : ℕ) (h : Tape) (w : IsTold limit h) (f : Feed) (e : feed c h ≡ Some f) where
  abbrev x : ℕ
  x = f.flow.exchange

  abbrev lost : Tape
  lost = Noted (note.Close c 0 closed.Lost) ∷ h

  abbrev doomed : Tape
  doomed = Noted (note.Doom x (cause.ConnLost c)) ∷ lost

  level_lost : (d : ℕ) → (c == d) ≡ false → above limit d lost ≡ above limit d h
  level_lost d n = above_same limit d (Noted (note.Close c 0 closed.Lost)) h (ap (λ b. if b then [] else out d h) n)

  rises_lost : (y d : ℕ) → rises limit y d lost ≡ rises limit y d h
  rises_lost y d = none_more (rises_at limit d (Noted (note.Close c 0 closed.Lost)) h) (rises limit y d h) (by_case (c == d)
      (λ t. ap (λ b. not (above limit d h) && b) (above_empty limit d lost (ap (λ b. if b then [] else out d h) t)) ∙ and_none (not (above limit d h)))
      (λ n. no_rise (above limit d h) (above limit d lost) (level_lost d n)))

  lost_at : ArePaused limit lost
  lost_at = λ d. for_some (feed d h) (IsPaused limit lost d) (λ g k.
      let p : IsPaused limit h d g = paused_at limit h d g w.at k in
      record {
        pauses = p.pauses ∙ sym (rises_lost g.flow.exchange d);
        resumes = at_most_more (resumes (opposite g.flow) h) (drains limit g.flow.exchange d h) (one_if (drains_at limit d (Noted (note.Close c 0 closed.Lost)) h)) (resumed_at limit h d g w.told k);
      })

  third : (d : ℕ) (g : Feed) → feed d doomed ≡ Some g → (c == d) ≡ false
  third d g k = by_case (c == d)
      (λ t. no_some (feed c doomed) g (ap (λ o. unless_doomed x o) e ∙ ap (λ b. if b then None else Some f) (same_number x)) (ap (λ y. feed y doomed) (number_is c d t) ∙ k))
      (λ n. n)

  level_doomed : (d : ℕ) → above limit d doomed ≡ above limit d lost
  level_doomed d = above_same limit d (Noted (note.Doom x (cause.ConnLost c))) lost refl

  rises_doomed : (y d : ℕ) → rises limit y d doomed ≡ rises limit y d h
  rises_doomed y d = none_more (rises_at limit d (Noted (note.Doom x (cause.ConnLost c))) lost) (rises limit y d lost) (no_rise (above limit d lost) (above limit d doomed) (level_doomed d)) ∙ rises_lost y d

  drains_doomed : (y d : ℕ) → (c == d) ≡ false → drains limit y d doomed ≡ drains limit y d h
  drains_doomed y d n = none_more (drains_at limit d (Noted (note.Doom x (cause.ConnLost c))) lost) (drains limit y d lost) (no_drain (above limit d lost) (above limit d doomed) (level_doomed d))
      ∙ none_more (drains_at limit d (Noted (note.Close c 0 closed.Lost)) h) (drains limit y d h) (no_drain (above limit d h) (above limit d lost) (level_lost d n))

  pub told_doomed : IsTold limit doomed
  told_doomed = record {
    at = λ d. for_some (feed d doomed) (IsPaused limit doomed d) (λ g k.
        let p : IsPaused limit h d g = paused_at limit h d g w.at (left_feed x (feed d h) g k) in
        record {
          pauses = p.pauses ∙ sym (rises_doomed g.flow.exchange d);
          resumes = subst (λ z. resumes (opposite g.flow) h ≤ z) (sym (drains_doomed g.flow.exchange d (third d g k))) p.resumes;
        });
    told = λ d. for_some (feed d doomed) (λ g. resumes (opposite g.flow) doomed ≡ drains limit g.flow.exchange d doomed) (λ g k.
        resumed_at limit h d g w.told (left_feed x (feed d h) g k) ∙ sym (drains_doomed g.flow.exchange d (third d g k)));
    follows = (lost_at, (w.at, w.follows));
    ends = (tt, (tt, w.ends));
  }

-- ---- a pair starts
module _ (limit c d : ℕ) (h : Tape) (s : IsSound h) (v : IsEven limit h) (w : IsTold limit h) where
  abbrev fresh : ℕ
  fresh = pairs h + 1

  abbrev begun : Tape
  begun = Noted (note.Start fresh c 0 d) ∷ h

  next_is : (n : ℕ) → n < n + 1
  next_is n = omega arith

  older : (n y : ℕ) → y ≤ n → (n + 1 == y) ≡ false
  older n y l = grind (arith, nat_tests)

  none_at_all : (n : ℕ) → n ≡ 0 → n ≤ 0
  none_at_all n e = omega (arith, e)

  unused : (b : Bool) → Unused h (record { exchange = fresh; back = b })
  unused b = v.unused (record { exchange = fresh; back = b }) (next_is (pairs h))

  new_rises : (e : ℕ) → rises limit fresh e begun ≡ 0
  new_rises e = ap (λ b. if b then 0 else rises limit fresh e h) (same_number fresh)

  new_drains : (e : ℕ) → drains limit fresh e begun ≡ 0
  new_drains e = ap (λ b. if b then 0 else drains limit fresh e h) (same_number fresh)

  new_paused : (e : ℕ) (b : Bool) (to : ℕ) → IsPaused limit begun e (record { flow = record { exchange = fresh; back = b }; to = to })
  new_paused e b to = record {
    pauses = (unused (not b)).pauses ∙ sym (new_rises e);
    resumes = subst (λ z. resumes (record { exchange = fresh; back = not b }) h ≤ z) (sym (new_drains e)) (none_at_all (resumes (record { exchange = fresh; back = not b }) h) (unused (not b)).resumes);
  }

  old_rises : (e : ℕ) (f : Feed) → feed e h ≡ Some f → rises limit f.flow.exchange e begun ≡ rises limit f.flow.exchange e h
  old_rises e f k = ap (λ b. if b then 0 else rises limit f.flow.exchange e h) (older (pairs h) f.flow.exchange (if_some (feed e h) (IsPaired h e) f k (s.paired e)).few)

  old_drains : (e : ℕ) (f : Feed) → feed e h ≡ Some f → drains limit f.flow.exchange e begun ≡ drains limit f.flow.exchange e h
  old_drains e f k = ap (λ b. if b then 0 else drains limit f.flow.exchange e h) (older (pairs h) f.flow.exchange (if_some (feed e h) (IsPaired h e) f k (s.paired e)).few)

  abbrev Told : ℕ → Feed → Type 0
  Told e f = resumes (opposite f.flow) begun ≡ drains limit f.flow.exchange e begun

  pub told_start : IsTold limit begun
  told_start = record {
    at = λ e. for_some (feed e begun) (IsPaused limit begun e) (λ f k.
        one_of (c == e) (d == e) (record { flow = request fresh; to = d }) (record { flow = response fresh; to = c }) (feed e h) f k
        (λ z. subst (λ g. IsPaused limit begun e g) z (new_paused e false d))
        (λ z. subst (λ g. IsPaused limit begun e g) z (new_paused e true c))
        (λ z.
        let p : IsPaused limit h e f = paused_at limit h e f w.at z in
        record { pauses = p.pauses ∙ sym (old_rises e f z); resumes = subst (λ y. resumes (opposite f.flow) h ≤ y) (sym (old_drains e f z)) p.resumes }));
    told = λ e. for_some (feed e begun) (Told e) (λ f k.
        one_of (c == e) (d == e) (record { flow = request fresh; to = d }) (record { flow = response fresh; to = c }) (feed e h) f k
        (λ z. subst (λ g. Told e g) z ((unused true).resumes ∙ sym (new_drains e)))
        (λ z. subst (λ g. Told e g) z ((unused false).resumes ∙ sym (new_drains e)))
        (λ z. resumed_at limit h e f w.told z ∙ sym (old_drains e f z)));
    follows = (w.at, w.follows);
    ends = (tt, w.ends);
  }

-- ---- octets arrive at a connection that isn't above
module _ (limit : ℕ) (h : Tape) (s : IsSound h) (w : IsTold limit h) (f : Feed) (octets : List ℕ) (c : ℕ)
    (to : goes_to f.flow h ≡ Some f.to) (back : feed f.to h ≡ Some (record { flow = opposite f.flow; to = c })) (calm_there : above limit f.to h ≡ false) where
  abbrev arrived : Tape
  arrived = Noted (note.Arrive f.flow octets) ∷ h

  abbrev high : Bool
  high = above limit f.to arrived

  abbrev held : Tape
  held = Noted (note.Pause f.flow (buffer.Write f.to)) ∷ arrived

  level_other : (d : ℕ) → (f.to == d) ≡ false → above limit d arrived ≡ above limit d h
  level_other d n = above_same limit d (Noted (note.Arrive f.flow octets)) h
      (ap (λ b. out d h ++ (if b then octets else [])) (ap (λ o. is_some_of o d) to ∙ n) ∙ append-nil (out d h))

  told_low : high ≡ false → IsTold limit arrived
  told_low e = calm limit (note.Arrive f.flow octets) h (record {
    fed = λ d g q. q;
    level = λ d g q. by_case (f.to == d) (λ t. subst (λ y. above limit y arrived ≡ above limit y h) (number_is f.to d t) (e ∙ sym calm_there)) (level_other d);
    rises = λ y d. refl;
    drains = λ y d. refl;
    pauses = λ g. refl;
    resumes = λ g. refl;
  }) w.at tt w

  level_held : (d : ℕ) → above limit d held ≡ above limit d arrived
  level_held d = above_same limit d (Noted (note.Pause f.flow (buffer.Write f.to))) arrived refl

  rises_held : (y d : ℕ) → rises limit y d held ≡ one_if (rises_at limit d (Noted (note.Arrive f.flow octets)) h) + rises limit y d h
  rises_held y d = none_more (rises_at limit d (Noted (note.Pause f.flow (buffer.Write f.to))) arrived) (rises limit y d arrived) (no_rise (above limit d arrived) (above limit d held) (level_held d))

  drains_none : (d : ℕ) → drains_at limit d (Noted (note.Arrive f.flow octets)) h ≡ false
  drains_none d = by_case (f.to == d)
      (λ t. subst (λ y. drains_at limit y (Noted (note.Arrive f.flow octets)) h ≡ false) (number_is f.to d t) (ap (λ b. b && not high) calm_there))
      (λ n. no_drain (above limit d h) (above limit d arrived) (level_other d n))

  drains_held : (y d : ℕ) → drains limit y d held ≡ drains limit y d h
  drains_held y d = none_more (drains_at limit d (Noted (note.Pause f.flow (buffer.Write f.to))) arrived) (drains limit y d arrived) (no_drain (above limit d arrived) (above limit d held) (level_held d))
      ∙ none_more (drains_at limit d (Noted (note.Arrive f.flow octets)) h) (drains limit y d h) (drains_none d)

  pauses_here : high ≡ true → (d : ℕ) (g : Feed) → feed d h ≡ Some g → pauses (opposite g.flow) held ≡ rises limit g.flow.exchange d held
  pauses_here e d g k = by_case (f.to == d)
      (λ t.
      let same : record { flow = opposite f.flow; to = c } ≡ g = same_Some _ _ (sym back ∙ ap (λ y. feed y h) (number_is f.to d t) ∙ k) in
      let p : IsPaused limit h f.to (record { flow = opposite f.flow; to = c }) = paused_at limit h f.to (record { flow = opposite f.flow; to = c }) w.at back in
      subst (λ y. pauses (opposite y.flow) held ≡ rises limit y.flow.exchange d held) same
      (subst (λ y. pauses (opposite (opposite f.flow)) held ≡ rises limit f.flow.exchange y held) (number_is f.to d t)
      (ap (λ z. one_if z + pauses (opposite (opposite f.flow)) h) (ap (λ z. same_flow f.flow z) (opposite_twice f.flow) ∙ same_self f.flow)
      ∙ ap (λ z. 1 + z) p.pauses
      ∙ sym (rises_held f.flow.exchange f.to ∙ (λ i. one_if (not (calm_there i) && e i) + rises limit f.flow.exchange f.to h)))))
      (λ n.
      let q : IsPaired h d g = if_some (feed d h) (IsPaired h d) g k (s.paired d) in
      none_more (same_flow f.flow (opposite g.flow)) (pauses (opposite g.flow) h) (apart f.flow (opposite g.flow) f.to d h to q.comes n)
      ∙ (paused_at limit h d g w.at k).pauses
      ∙ sym (rises_held g.flow.exchange d ∙ none_more (rises_at limit d (Noted (note.Arrive f.flow octets)) h) (rises limit g.flow.exchange d h) (no_rise (above limit d h) (above limit d arrived) (level_other d n))))

  told_high : high ≡ true → IsTold limit held
  told_high e = record {
    at = λ d. for_some (feed d h) (IsPaused limit held d) (λ g k. record {
      pauses = pauses_here e d g k;
      resumes = subst (λ z. resumes (opposite g.flow) h ≤ z) (sym (drains_held g.flow.exchange d)) (paused_at limit h d g w.at k).resumes;
    });
    told = λ d. for_some (feed d h) (λ g. resumes (opposite g.flow) held ≡ drains limit g.flow.exchange d held) (λ g k. resumed_at limit h d g w.told k ∙ sym (drains_held g.flow.exchange d));
    follows = (tt, (w.at, w.follows));
    ends = (tt, (tt, w.ends));
  }

  told_by : (b : Bool) → high ≡ b → IsTold limit (onto (pause_if b f) arrived)
  told_by true e = told_high e
  told_by false e = told_low e

  pub told_read : IsTold limit (onto (pause_if (rises_at limit f.to (Noted (note.Arrive f.flow octets)) h) f) arrived)
  told_read = subst (λ b. IsTold limit (onto (pause_if b f) arrived)) (sym (ap (λ b. not b && high) calm_there)) (told_by high refl)

-- ---- octets leave
still_low : (a b : Bool) → (a ≡ false → b ≡ false) → (not a && b) ≡ false
still_low true b e = refl
still_low false b e = e refl

drop_fewer : (n : ℕ) (xs : List ℕ) → length (drop n xs) ≤ length xs
drop_fewer n xs = fewer (length (drop n xs)) (length xs) n (length-drop n xs)
  where
    fewer : (a l n : ℕ) → a ≡ l - n → a ≤ l
    fewer a l n e = omega (arith, e)

module _ (limit c n : ℕ) (h : Tape) (s : IsSound h) (w : IsTold limit h) where
  abbrev gone : Tape
  gone = Noted (note.Out c n) ∷ h

  abbrev drained : Bool
  drained = drains_at limit c (Noted (note.Out c n)) h

  level_gone : (d : ℕ) → (c == d) ≡ false → above limit d gone ≡ above limit d h
  level_gone d m = above_same limit d (Noted (note.Out c n)) h (ap (λ b. drop (if b then n else 0) (out d h)) m)

  low_gone : above limit c h ≡ false → above limit c gone ≡ false
  low_gone e = ap (λ b. above_after limit (above limit c h) (length (drop (if b then n else 0) (out c h)))) (same_number c)
      ∙ above_less limit c (length (drop n (out c h))) h e (drop_fewer n (out c h))

  rises_gone : (y d : ℕ) → rises limit y d gone ≡ rises limit y d h
  rises_gone y d = none_more (rises_at limit d (Noted (note.Out c n)) h) (rises limit y d h) (by_case (c == d)
      (λ t. subst (λ z. rises_at limit z (Noted (note.Out c n)) h ≡ false) (number_is c d t) (still_low (above limit c h) (above limit c gone) low_gone))
      (λ m. no_rise (above limit d h) (above limit d gone) (level_gone d m)))

  gone_at : ArePaused limit gone
  gone_at = λ d. for_some (feed d h) (IsPaused limit gone d) (λ g k. record {
    pauses = (paused_at limit h d g w.at k).pauses ∙ sym (rises_gone g.flow.exchange d);
    resumes = at_most_more (resumes (opposite g.flow) h) (drains limit g.flow.exchange d h) (one_if (drains_at limit d (Noted (note.Out c n)) h)) (resumed_at limit h d g w.told k);
  })

  -- nobody is to be told
  told_quiet : ((d : ℕ) (g : Feed) → feed d h ≡ Some g → drains_at limit d (Noted (note.Out c n)) h ≡ false) → IsTold limit gone
  told_quiet none = record {
    at = gone_at;
    told = λ d. for_some (feed d h) (λ g. resumes (opposite g.flow) gone ≡ drains limit g.flow.exchange d gone) (λ g k.
        resumed_at limit h d g w.told k ∙ sym (none_more (drains_at limit d (Noted (note.Out c n)) h) (drains limit g.flow.exchange d h) (none d g k)));
    follows = (w.at, w.follows);
    ends = (tt, w.ends);
  }

  module _ (f : Feed) (e : feed c h ≡ Some f) where
    abbrev resumed : Tape
    resumed = Noted (note.Resume (opposite f.flow) (buffer.Write c)) ∷ gone

    level_resumed : (d : ℕ) → above limit d resumed ≡ above limit d gone
    level_resumed d = above_same limit d (Noted (note.Resume (opposite f.flow) (buffer.Write c))) gone refl

    rises_resumed : (y d : ℕ) → rises limit y d resumed ≡ rises limit y d h
    rises_resumed y d = none_more (rises_at limit d (Noted (note.Resume (opposite f.flow) (buffer.Write c))) gone) (rises limit y d gone) (no_rise (above limit d gone) (above limit d resumed) (level_resumed d)) ∙ rises_gone y d

    drains_resumed : (y d : ℕ) → drains limit y d resumed ≡ one_if (drains_at limit d (Noted (note.Out c n)) h) + drains limit y d h
    drains_resumed y d = none_more (drains_at limit d (Noted (note.Resume (opposite f.flow) (buffer.Write c))) gone) (drains limit y d gone) (no_drain (above limit d gone) (above limit d resumed) (level_resumed d))

    resumes_here : drained ≡ true → (d : ℕ) (g : Feed) → feed d h ≡ Some g → resumes (opposite g.flow) resumed ≡ drains limit g.flow.exchange d resumed
    resumes_here t d g k = by_case (c == d)
        (λ z. let same : f ≡ g = same_Some f g (sym e ∙ ap (λ y. feed y h) (number_is c d z) ∙ k) in
        subst (λ y. resumes (opposite y.flow) resumed ≡ drains limit y.flow.exchange d resumed) same
        (subst (λ y. resumes (opposite f.flow) resumed ≡ drains limit f.flow.exchange y resumed) (number_is c d z)
        (ap (λ b. one_if b + resumes (opposite f.flow) h) (same_self (opposite f.flow))
        ∙ ap (λ b. 1 + b) (resumed_at limit h c f w.told e)
        ∙ sym (drains_resumed f.flow.exchange c ∙ ap (λ b. one_if b + drains limit f.flow.exchange c h) t))))
        (λ m.
        let p : IsPaired h c f = if_some (feed c h) (IsPaired h c) f e (s.paired c) in
        let q : IsPaired h d g = if_some (feed d h) (IsPaired h d) g k (s.paired d) in
        none_more (same_flow (opposite f.flow) (opposite g.flow)) (resumes (opposite g.flow) h) (apart (opposite f.flow) (opposite g.flow) c d h p.comes q.comes m)
        ∙ resumed_at limit h d g w.told k
        ∙ sym (drains_resumed g.flow.exchange d ∙ none_more (drains_at limit d (Noted (note.Out c n)) h) (drains limit g.flow.exchange d h) (no_drain (above limit d h) (above limit d gone) (level_gone d m))))

    as_many : (a b : ℕ) → a ≡ b → a ≤ b
    as_many a b e = omega (arith, e)

    told_resumed : drained ≡ true → IsTold limit resumed
    told_resumed t = record {
      at = λ d. for_some (feed d h) (IsPaused limit resumed d) (λ g k. record {
        pauses = (paused_at limit h d g w.at k).pauses ∙ sym (rises_resumed g.flow.exchange d);
        resumes = as_many (resumes (opposite g.flow) resumed) (drains limit g.flow.exchange d resumed) (resumes_here t d g k);
      });
      told = λ d. for_some (feed d h) (λ g. resumes (opposite g.flow) resumed ≡ drains limit g.flow.exchange d resumed) (resumes_here t d);
      follows = (gone_at, (w.at, w.follows));
      ends = (tt, (tt, w.ends));
    }

    told_if : (b : Bool) → drained ≡ b → IsTold limit (onto (resume_if b (Some f) c) gone)
    told_if true t = told_resumed t
    told_if false t = told_quiet (λ d g k. by_case (c == d)
        (λ z. subst (λ y. drains_at limit y (Noted (note.Out c n)) h ≡ false) (number_is c d z) t)
        (λ m. no_drain (above limit d h) (above limit d gone) (level_gone d m)))

  told_of : (o : Option Feed) → feed c h ≡ o → IsTold limit (onto (resume_if drained o c) gone)
  told_of None e = told_quiet (λ d g k. no_drain (above limit d h) (above limit d gone)
      (level_gone d (by_case (c == d) (λ t. no_some (feed c h) g e (ap (λ y. feed y h) (number_is c d t) ∙ k)) (λ m. m))))
  told_of (Some f) e = told_if f e drained refl

  pub told_room : IsTold limit (onto (resume_if drained (feed c h) c) gone)
  told_room = told_of (feed c h) refl
