-- A wire session that breaks no rule is run to its end.
use Rattle.flow_notes.specs.Event.{event_spelling}
use Rattle.flow_notes.specs.Line.{newline}
use Rattle.flow_notes.specs.Name.{AreNames}
use Rattle.flow_notes.specs.declared.events.Event.{Event}
use Rattle.config_tables.specs.Reading.{config_of}
use Rattle.proxy_config.specs.declared.config.Config.{Config}
use Rattle.session_config.specs.ClusterNames.{names_in, resources_in}
use Rattle.session_lines.specs.WireLines.{Behind, IsWireSeen, MayComeWire, NoLine, SpellsNoWire, WireEvent, WireHeader, WireItem, WireSeen, is_headed, wire_event_lines, wire_header, wire_line, wire_text}
use Rattle.session_lines.specs.WireOrder.{MayFollowWire, MayFollowWireAll}
use Rattle.session_run.specs.Ending.{Cut, IsRefused, Long, MayNotCome, longest_line}
use Rattle.session_run.specs.Newlines.{has_newline}
use Rattle.session_run.specs.Tells.{Replayed}
use Rattle.session_run.specs.declared.status.Status.{Status}
use Rattle.std.proofs.Common.{ap, append_assoc, arith, inl, inr, length-append, refl, subst, sym, ◌∙◌}
use Rattle.std.proofs.lemmas.List.{append-nil, take-append-le}
use Rattle.std.specs.Prelude.{Bool, IsTrue, List, None, Ok, Option, Result, Some, [], false, length, suc, take, true, zero, ℕ, ◌++◌, ◌+◌, ◌<◌, ◌==◌, ◌||◌, ◌∷◌, ◌≡◌, ◌≤◌, ◌⊎◌}
use Rattle.wire_run.proofs.Retelling.{told_of}
use Rattle.wire_run.proofs.Spelling.{IsWhole, event_whole, same_event, same_line}
use Rattle.wire_run.specs.Allowed.{Completes, IsAllowedWire, IsUnrefused}
use Rattle.wire_run.specs.Played.{wire_kind}
use Rattle.session_run.specs.declared.status.Status.TheVariants as status

module _ (names : List (List ℕ)) (resources : ℕ) (are : AreNames names) where
  one_more : (l s t : List ℕ) → (l ++ (s ++ newline)) ++ t ≡ l ++ (s ++ 10 ∷ t)
  one_more l s t = append_assoc l (s ++ newline) t ∙ ap (λ (v : List ℕ). l ++ v) (append_assoc s newline t)

  same_events : (ds es : List Event) (x y : List ℕ) → length ds ≡ length es → MayFollowWireAll names resources ds → MayFollowWireAll names resources es → wire_event_lines names ds ++ x ≡ wire_event_lines names es ++ y → (ds ≡ es) × (x ≡ y)
  same_events [] [] x y n a b e = (refl, e)
  same_events [] (f ∷ es) x y n a b e = absurd (omega (arith, n))
  same_events (d ∷ ds) [] x y n a b e = absurd (omega (arith, n))
  same_events (d ∷ ds) (f ∷ es) x y n a b e =
      let k = same_events ds es (event_spelling names d ++ 10 ∷ x) (event_spelling names f ++ 10 ∷ y) (omega (arith, n)) a.1 b.1
      (sym (one_more (wire_event_lines names ds) (event_spelling names d) x) ∙ e ∙ one_more (wire_event_lines names es) (event_spelling names f) y) in
      let l = same_line (event_spelling names d) (event_spelling names f) x y (event_whole names resources ds d are a.0) (event_whole names resources es f are b.0) k.1 in
      let i : d ≡ f = same_event names resources ds es d f are a.0 b.0 l.0 in
      (ap (λ (v : List Event). d ∷ v) k.0 ∙ ap (λ (v : Event). v ∷ es) i, l.1)

  -- the event of the next line
  record NextEvent (ds : List Event) (x : List ℕ) : Type 0 where
    next : Event
    more : List ℕ
    may : MayFollowWire names resources ds next
    is : x ≡ event_spelling names next ++ 10 ∷ more

  less_or_same : (m n : ℕ) → m < suc n → (m < n) ⊎ (m ≡ n)
  less_or_same zero zero lt = inr refl
  less_or_same zero (suc n) lt = inl (omega arith)
  less_or_same (suc m) zero lt = absurd (omega (arith, lt))
  less_or_same (suc m) (suc n) lt = shift (less_or_same m n (omega (arith, lt)))
    where
      shift : (m < n) ⊎ (m ≡ n) → (suc m < suc n) ⊎ (suc m ≡ suc n)
      shift (inl less) = inl (omega (arith, less))
      shift (inr same) = inr (ap suc same)

  next_of : (ds es : List Event) (f : Event) (x y : List ℕ) → MayFollowWireAll names resources ds → MayFollowWireAll names resources (f ∷ es) → (length ds < length es → NextEvent ds x)
      → wire_event_lines names ds ++ x ≡ wire_event_lines names es ++ (event_spelling names f ++ 10 ∷ y) → (length ds < length es) ⊎ (length ds ≡ length es) → NextEvent ds x
  next_of ds es f x y a b earlier e (inl less) = earlier less
  next_of ds es f x y a b earlier e (inr same) =
      let k = same_events ds es x (event_spelling names f ++ 10 ∷ y) same a b.1 e in
      let P : List Event → Type 0 = λ v. MayFollowWire names resources v f in
      record { next = f; more = y; may = subst P (sym k.0) b.0; is = k.1 }

  next_event : (ds es : List Event) (x y : List ℕ) → length ds < length es → MayFollowWireAll names resources ds → MayFollowWireAll names resources es → wire_event_lines names ds ++ x ≡ wire_event_lines names es ++ y → NextEvent ds x
  next_event ds [] x y n a b e = absurd (omega (arith, n))
  next_event ds (f ∷ es) x y n a b e =
      let split = e ∙ one_more (wire_event_lines names es) (event_spelling names f) y in
      next_of ds es f x y a b (λ less. next_event ds es x (event_spelling names f ++ 10 ∷ y) less a b.1 split) split (less_or_same (length ds) (length es) (omega (arith, n)))

  nothing_more : (xs ys : List ℕ) → [] ≡ xs ++ 10 ∷ ys → ⊥
  nothing_more [] ys e = cc
  nothing_more (x ∷ xs) ys e = cc

  -- ---- what stands behind lines of the session

  record NextLine (seen : WireSeen) (rest : List ℕ) : Type 0 where
    item : WireItem
    more : List ℕ
    may : MayComeWire names resources seen item
    whole : IsWhole (wire_line names item)
    is : rest ≡ wire_line names item ++ 10 ∷ more

  abbrev GoesOnAt : WireSeen → List ℕ → Type 0
  GoesOnAt seen rest = ((rest ≡ []) × IsTrue (is_headed seen)) ⊎ NextLine seen rest

  opened : (h v : List ℕ) → (h ++ newline) ++ v ≡ h ++ 10 ∷ v
  opened h v = append_assoc h newline v

  grouped : (h v t : List ℕ) → ((h ++ newline) ++ v) ++ t ≡ h ++ 10 ∷ (v ++ t)
  grouped h v t = append_assoc (h ++ newline) v t ∙ opened h (v ++ t)

  compare : (m n : ℕ) → (m < n) ⊎ ((m ≡ n) ⊎ (n < m))
  compare zero zero = inr (inl refl)
  compare zero (suc n) = inl (omega arith)
  compare (suc m) zero = inr (inr (omega arith))
  compare (suc m) (suc n) = shift (compare m n)
    where
      shift : (m < n) ⊎ ((m ≡ n) ⊎ (n < m)) → (suc m < suc n) ⊎ ((suc m ≡ suc n) ⊎ (suc n < suc m))
      shift (inl less) = inl (omega (arith, less))
      shift (inr (inl same)) = inr (inl (ap suc same))
      shift (inr (inr more)) = inr (inr (omega (arith, more)))

  after_events : (ds es : List Event) (rest : List ℕ) → MayFollowWireAll names resources ds → MayFollowWireAll names resources es → wire_event_lines names ds ++ rest ≡ wire_event_lines names es → GoesOnAt (Behind ds) rest
  after_events ds es rest a b e = by (compare (length ds) (length es))
    where
      by : (length ds < length es) ⊎ ((length ds ≡ length es) ⊎ (length es < length ds)) → GoesOnAt (Behind ds) rest
      by (inl less) =
          let k = next_event ds es rest [] less a b (e ∙ sym (append-nil (wire_event_lines names es))) in
          inr (record { item = WireEvent k.next; more = k.more; may = k.may; whole = event_whole names resources ds k.next are k.may; is = k.is })
      by (inr (inl same)) = inl ((same_events ds es rest [] same a b (e ∙ sym (append-nil (wire_event_lines names es)))).1, refl)
      by (inr (inr more)) = let k = next_event es ds [] rest more b a (append-nil (wire_event_lines names es) ∙ sym e) in absurd (nothing_more (event_spelling names k.next) k.more k.is)

  goes_on : (seen : WireSeen) (es : List Event) (rest : List ℕ) → IsWireSeen names resources seen → MayFollowWireAll names resources es → wire_text names seen ++ rest ≡ wire_text names (Behind es) → GoesOnAt seen rest
  goes_on NoLine es rest i k e = inr (record { item = WireHeader; more = wire_event_lines names es; may = tt; whole = refl; is = e ∙ opened wire_header (wire_event_lines names es) })
  goes_on (Behind ds) es rest i k e =
      let first = sym (grouped wire_header (wire_event_lines names ds) rest) ∙ e ∙ opened wire_header (wire_event_lines names es) in
      after_events ds es rest i k (same_line wire_header wire_header (wire_event_lines names ds ++ rest) (wire_event_lines names es) refl refl first).1

  -- ---- so no line is refused

  nothing_left : (rest ys : List ℕ) → rest ++ ys ≡ [] → length rest ≡ 0
  nothing_left [] ys e = refl
  nothing_left (x ∷ rest) ys e = cc

  or_true : (b : Bool) → (b || true) ≡ true
  or_true true = refl
  or_true false = refl

  within_reach : (n : ℕ) (line more : List ℕ) → length line < n → has_newline (take n (line ++ 10 ∷ more)) ≡ true
  within_reach zero line more lt = absurd (omega (arith, lt))
  within_reach (suc n) [] more lt = refl
  within_reach (suc n) (c ∷ line) more lt = ap (λ b. (c == 10) || b) (within_reach n line more (omega (arith, lt))) ∙ or_true (c == 10)

  has_one : (line more : List ℕ) → has_newline (line ++ 10 ∷ more) ≡ true
  has_one [] more = refl
  has_one (c ∷ line) more = ap (λ b. (c == 10) || b) (has_one line more) ∙ or_true (c == 10)

  unlike : (b : Bool) → b ≡ true → b ≡ false → ⊥
  unlike b is isnt = let k : true ≡ false = sym is ∙ isnt in cc

  pub unrefused : (text read ys rest : List ℕ) (seen : WireSeen) (es : List Event) → MayFollowWireAll names resources es → text ≡ wire_text names (Behind es)
      → ((before line behind : List ℕ) → text ≡ before ++ (line ++ 10 ∷ behind) → IsWhole line → length line ≤ longest_line)
      → IsWireSeen names resources seen → text ≡ read ++ ys → read ≡ wire_text names seen ++ rest → IsRefused (SpellsNoWire names resources seen) (is_headed seen) (wire_text names seen) rest (Some ys) → ⊥
  unrefused text read ys rest seen es all text_is short may split reads refused =
      by refused (goes_on seen es (rest ++ ys) may all (sym whole ∙ text_is))
    where
      whole : text ≡ wire_text names seen ++ (rest ++ ys)
      whole = split ∙ ap (λ (v : List ℕ). v ++ ys) reads ∙ append_assoc (wire_text names seen) rest ys

      by : IsRefused (SpellsNoWire names resources seen) (is_headed seen) (wire_text names seen) rest (Some ys) → GoesOnAt seen (rest ++ ys) → ⊥
      by (MayNotCome n has none) (inl over) = let none_left = nothing_left rest ys over.0 in let some = has.begins.within in omega (arith, none_left, some)
      by (MayNotCome n has none) (inr line) =
          let same = same_line (take n rest) (wire_line names line.item) (has.begins.rest ++ ys) line.more has.begins.whole line.whole
          (sym (append_assoc (take n rest) (10 ∷ has.begins.rest) ys) ∙ ap (λ (v : List ℕ). v ++ ys) (sym has.begins.is) ∙ line.is) in
          none line.item (record { may = line.may; is = sym same.0 })
      by (Long broken within) (inl over) = let none_left = nothing_left rest ys over.0 in let some = broken.within in omega (arith, none_left, some)
      by (Long broken within) (inr line) =
          let n = longest_line + 1 in
          let most = short (wire_text names seen) (wire_line names line.item) line.more (whole ∙ ap (λ (v : List ℕ). wire_text names seen ++ v) line.is) line.whole in
          let found = sym (ap (λ (v : List ℕ). has_newline v) (take-append-le n rest ys broken.within)) ∙ ap (λ (v : List ℕ). has_newline (take n v)) line.is in
          unlike _ (within_reach n (wire_line names line.item) line.more (omega (arith, most))) (sym found ∙ broken.whole)
      by (Cut no_line fits unended end) (inl over) = unended (sym (append-nil rest) ∙ ap (λ (v : List ℕ). rest ++ v) (sym end) ∙ over.0, over.1)
      by (Cut no_line fits unended end) (inr line) =
          let P : List ℕ → Type 0 = λ v. has_newline v ≡ false in
          unlike _ (has_one (wire_line names line.item) line.more) (subst P (sym (append-nil rest) ∙ ap (λ (v : List ℕ). rest ++ v) (sym end) ∙ line.is) no_line)

-- ---- a text spells at most one session

module _ (names : List (List ℕ)) (resources : ℕ) (are : AreNames names) where
  events_same : (ds es : List Event) → MayFollowWireAll names resources ds → MayFollowWireAll names resources es → wire_event_lines names ds ≡ wire_event_lines names es → ds ≡ es
  events_same ds es a b e = by (compare names resources are (length ds) (length es))
    where
      whole : wire_event_lines names ds ++ [] ≡ wire_event_lines names es ++ []
      whole = append-nil (wire_event_lines names ds) ∙ e ∙ sym (append-nil (wire_event_lines names es))

      by : (length ds < length es) ⊎ ((length ds ≡ length es) ⊎ (length es < length ds)) → ds ≡ es
      by (inl less) = let k = next_event names resources are ds es [] [] less a b whole in absurd (nothing_more names resources are _ k.more k.is)
      by (inr (inl same)) = (same_events names resources are ds es [] [] same a b whole).0
      by (inr (inr more)) = let k = next_event names resources are es ds [] [] more b a (sym whole) in absurd (nothing_more names resources are _ k.more k.is)

  one_seen : (s t : WireSeen) → IsWireSeen names resources s → IsWireSeen names resources t → wire_text names s ≡ wire_text names t → s ≡ t
  one_seen NoLine NoLine a b e = refl
  one_seen NoLine (Behind es) a b e = absurd (nothing_more names resources are wire_header (wire_event_lines names es) (e ∙ opened names resources are wire_header (wire_event_lines names es)))
  one_seen (Behind ds) NoLine a b e = absurd (nothing_more names resources are wire_header (wire_event_lines names ds) (sym e ∙ opened names resources are wire_header (wire_event_lines names ds)))
  one_seen (Behind ds) (Behind es) a b e =
      let k = same_line wire_header wire_header (wire_event_lines names ds) (wire_event_lines names es) refl refl
      (sym (opened names resources are wire_header (wire_event_lines names ds)) ∙ e ∙ opened names resources are wire_header (wire_event_lines names es)) in
      ap Behind (events_same ds es a b k.1)

pub one_wire_session : (names : List (List ℕ)) (resources : ℕ) (s t : WireSeen) → AreNames names → IsWireSeen names resources s → IsWireSeen names resources t → wire_text names s ≡ wire_text names t → s ≡ t
one_wire_session names resources s t are a b e = one_seen names resources are s t a b e

-- ---- the first lines of a session are those of its first events

module _ (names : List (List ℕ)) (resources : ℕ) (are : AreNames names) where
  no_longer : (ds : List Event) → length ds ≤ 0 → ds ≡ []
  no_longer [] most = refl
  no_longer (d ∷ ds) most = absurd (omega (arith, most))

  one_longer : (ds es : List Event) (f : Event) (x y : List ℕ) → MayFollowWireAll names resources ds → MayFollowWireAll names resources (f ∷ es) → length ds ≤ length (f ∷ es) → wire_event_lines names ds ++ x ≡ wire_event_lines names (f ∷ es) ++ y
      → (length ds < length (f ∷ es) → (more : List Event) × (es ≡ more ++ ds)) → (length ds < length (f ∷ es)) ⊎ ((length ds ≡ length (f ∷ es)) ⊎ (length (f ∷ es) < length ds)) → (more : List Event) × (f ∷ es ≡ more ++ ds)
  one_longer ds es f x y a b most e earlier (inl less) = let k = earlier less in (f ∷ k.0, ap (λ (v : List Event). f ∷ v) k.1)
  one_longer ds es f x y a b most e earlier (inr (inl same)) = ([], sym (same_events names resources are ds (f ∷ es) x y same a b e).0)
  one_longer ds es f x y a b most e earlier (inr (inr longer)) = absurd (omega (arith, longer, most))

  in_front : (ds es : List Event) (x y : List ℕ) → MayFollowWireAll names resources ds → MayFollowWireAll names resources es → length ds ≤ length es → wire_event_lines names ds ++ x ≡ wire_event_lines names es ++ y
      → (more : List Event) × (es ≡ more ++ ds)
  in_front ds [] x y a b most e = ([], sym (no_longer ds most))
  in_front ds (f ∷ es) x y a b most e =
      one_longer ds es f x y a b most e (λ less. in_front ds es x (event_spelling names f ++ 10 ∷ y) a b.1 (omega (arith, less)) (e ∙ one_more names resources are (wire_event_lines names es) (event_spelling names f) y))
      (compare names resources are (length ds) (length (f ∷ es)))

  pub events_in_front : (ds es : List Event) (x : List ℕ) → MayFollowWireAll names resources ds → MayFollowWireAll names resources es → wire_event_lines names ds ++ x ≡ wire_event_lines names es → (more : List Event) × (es ≡ more ++ ds)
  events_in_front ds es x a b e = by (compare names resources are (length ds) (length es))
    where
      whole : wire_event_lines names ds ++ x ≡ wire_event_lines names es ++ []
      whole = e ∙ sym (append-nil (wire_event_lines names es))

      by : (length ds < length es) ⊎ ((length ds ≡ length es) ⊎ (length es < length ds)) → (more : List Event) × (es ≡ more ++ ds)
      by (inl less) = in_front ds es x [] a b (omega (arith, less)) whole
      by (inr (inl same)) = in_front ds es x [] a b (omega (arith, same)) whole
      by (inr (inr more)) = let k = next_event names resources are es ds [] x more b a (sym whole) in absurd (nothing_more names resources are _ k.more k.is)

-- ---- the run

same_config : {E : Type 0} (c d : Config) (r : Result Config E) → r ≡ Ok c → r ≡ Ok d → c ≡ d
same_config c d r e f = let k : Ok c ≡ Ok d = sym e ∙ f in cc

-- the configuration of the session is the one that its octets spell
as_configured : (config : Config) (config_text text : List ℕ) (k : Config) → config_of config_text ≡ Ok config → config_of config_text ≡ Ok k → IsAllowedWire config text → IsAllowedWire k text
as_configured config config_text text k e f a = let P : Config → Type 0 = λ v. IsAllowedWire v text in subst P (same_config config k (config_of config_text) e f) a

completed : (how : Status) (config : Config) (config_text text : List ℕ) (left_new out_old out_new : Option (List ℕ)) → config_of config_text ≡ Ok config → (how ≡ status.Usage → ⊥) → (how ≡ status.Config → ⊥)
    → Replayed wire_kind config_text (Some text) left_new out_old out_new how → IsAllowedWire config text → IsUnrefused how
completed status.Done config config_text text left_new out_old out_new c u f r a = tt
completed status.Memory config config_text text left_new out_old out_new c u f r a = tt
completed status.ReadFault config config_text text left_new out_old out_new c u f r a = tt
completed status.WriteFault config config_text text left_new out_old out_new c u f r a = tt
completed status.Usage config config_text text left_new out_old out_new c u f r a = u refl
completed status.Config config config_text text left_new out_old out_new c u f r a = f refl
completed status.Session config config_text text None out_old out_new c u f r a = r.consumes
completed status.Session config config_text text (Some ys) out_old out_new c u f r a =
    let k = r.tells.stands in
    let t = told_of status.Session config_text r.read r.text (Some ys) r.tells in
    let b = as_configured config config_text text t.config c t.configured a in
    let P : Config → Type 0 = λ v. AreNames (names_in v) in
    let named = subst P (same_config k.config t.config (config_of config_text) k.configured t.configured) k.named in
    unrefused (names_in t.config) (resources_in t.config) named text r.read ys t.rest t.seen b.events b.may b.is b.short t.tape.may r.consumes t.reads t.ends
completed status.TooLong config config_text text None out_old out_new c u f r a = r.consumes
completed status.TooLong config config_text text (Some ys) out_old out_new c u f r a =
    let t = r.tells in
    let most = a.within in
    let more = t.ends.more in
    let p = ap length r.consumes ∙ length-append r.read ys in
    let q = ap length t.reads ∙ length-append t.lines t.rest in
    omega (arith, most, more, p, q)

pub completes : (config : Config) (config_text : List ℕ) (left_old left_new out_old out_new : Option (List ℕ)) (how : Status) → config_of config_text ≡ Ok config → (how ≡ status.Usage → ⊥) → (how ≡ status.Config → ⊥)
    → Replayed wire_kind config_text left_old left_new out_old out_new how → Completes config left_old how
completes config config_text None left_new out_old out_new how c u f r = tt
completes config config_text (Some text) left_new out_old out_new how c u f r = completed how config config_text text left_new out_old out_new c u f r

pub completes_memory : (config : Config) (left : Option (List ℕ)) (how : Status) → how ≡ status.Memory → Completes config left how
completes_memory config None how e = tt
completes_memory config (Some text) how e = λ k. (let P : Status → Type 0 = λ v. IsUnrefused v in subst P (sym e) tt)
