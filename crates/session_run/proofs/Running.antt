-- What is read, judged and written of a session, piece by piece.
use Rattle.flow_notes.specs.Extends.{Extends}
use Rattle.flow_notes.specs.Line.{newline}
use Rattle.io_ports.specs.Faults.{Rose}
use Rattle.io_ports.specs.declared.octets.NoMemory.{NoMemory}
use Rattle.session_run.specs.Ending.{EndsAs, HasLine, Long, MayNotCome, longest_line, most_octets}
use Rattle.session_run.specs.Ends.{AppendsFront, Fills}
use Rattle.session_run.specs.Held.{held_of}
use Rattle.session_run.specs.Kinds.{Kind}
use Rattle.session_run.specs.Newlines.{BeginsWithLine, has_newline}
use Rattle.session_run.specs.Players.{AddsSummary, IsPlaying, PlaysLine}
use Rattle.session_run.specs.Runs.{Adds, AtEnd, Begins, CausedBy, EndsText, Finishes, Halts, HaltsAs, Judged, Refills, RunIs, Steps, TakesLine, Writes}
use Rattle.session_run.specs.Tells.{Replayed, Tells, TellsAs, TellsFront, numbered_line}
use Rattle.session_run.specs.declared.player.Went.{Went}
use Rattle.session_run.specs.declared.run.Run.{Run}
use Rattle.session_run.specs.declared.status.Status.{Status}
use Rattle.std.proofs.Common.{ap, append_assoc, arith, inl, inr, length-append, refl, subst, sym, ◌∙◌}
use Rattle.std.proofs.Math.Seq.{take-append_seam, take-length}
use Rattle.std.proofs.lemmas.Grind.{common_steps}
use Rattle.std.proofs.lemmas.List.{append-nil, length-take-le}
use Rattle.std.specs.Fmt.{decimal}
use Rattle.std.specs.Io.KnownBytes.{Appends, Consumes, IsAtEnd}
use Rattle.std.specs.Prelude.{Bool, Err, List, MatchResult, None, Ok, OnOk, Option, Result, Some, [], codes, drop, false, length, suc, take, true, zero, ℕ, ◌++◌, ◌+◌, ◌-◌, ◌<◌, ◌==◌, ◌||◌, ◌∷◌, ◌≡◌, ◌≤◌, ◌⊎◌}
use Rattle.session_run.specs.declared.player.Went.TheVariants as went
use Rattle.session_run.specs.declared.status.Status.TheVariants as status

-- ---- lists

both_false : (b c : Bool) → (b || c) ≡ false → (b ≡ false) × (c ≡ false)
both_false true c e = cc
both_false false c e = (refl, e)

-- a front of what has no newline has none
pub unbroken_front : (m n : ℕ) (xs : List ℕ) → m ≤ n → has_newline (take n xs) ≡ false → has_newline (take m xs) ≡ false
unbroken_front zero n xs le e = refl
unbroken_front (suc m) zero xs le e = absurd (omega (arith, le))
unbroken_front (suc m) (suc n) [] le e = refl
unbroken_front (suc m) (suc n) (x ∷ xs) le e =
    let k = both_false (x == 10) (has_newline (take n xs)) e in
    rw (k.0) (unbroken_front m n xs (omega (arith, le)) k.1)

-- what stands behind a line
line_rest : (n : ℕ) (xs rest : List ℕ) → xs ≡ take n xs ++ 10 ∷ rest → drop (suc n) xs ≡ rest
line_rest zero [] rest e = cc
line_rest zero (x ∷ xs) rest e = cc
line_rest (suc n) [] rest e = cc
line_rest (suc n) (x ∷ xs) rest e = line_rest n xs rest (let k : xs ≡ take n xs ++ 10 ∷ rest = cc in k)

moved : (consumed held line rest : List ℕ) → held ≡ line ++ 10 ∷ rest → consumed ++ held ≡ (consumed ++ (line ++ newline)) ++ rest
moved consumed held line rest e = ap (λ (v : List ℕ). consumed ++ v) e ∙ again consumed line rest
  where
    again : (a b c : List ℕ) → a ++ (b ++ 10 ∷ c) ≡ (a ++ (b ++ newline)) ++ c
    again a b c = grind (arith, common_steps)

line_length : (n : ℕ) (xs : List ℕ) → n < length xs → length (take n xs ++ newline) ≡ n + 1
line_length n xs lt = length-append (take n xs) newline ∙ ap (λ k. k + 1) (length-take-le n xs (omega (arith, lt)))

no_octets : (xs : List ℕ) → length xs ≡ 0 → xs ≡ []
no_octets [] e = refl
no_octets (x ∷ xs) e = absurd (omega (arith, e))

less_or_same : (m n : ℕ) → m < suc n → (m < n) ⊎ (m ≡ n)
less_or_same zero zero lt = inr refl
less_or_same zero (suc n) lt = inl (omega arith)
less_or_same (suc m) zero lt = absurd (omega (arith, lt))
less_or_same (suc m) (suc n) lt = shift (less_or_same m n (omega (arith, lt)))
  where
    shift : (m < n) ⊎ (m ≡ n) → (suc m < suc n) ⊎ (suc m ≡ suc n)
    shift (inl less) = inl (omega (arith, less))
    shift (inr same) = inr (ap suc same)

module _ {P : Type 0} {kind : Kind P} where
  -- ---- a line

  pub run_begun : (run : Run P) (config : List ℕ) → held_of run.lines ≡ [] → Begins kind run.player config → run.text ≡ [] → run.read ≡ 0 → run.number ≡ 1 → RunIs kind run config [] []
  run_begun run config h k t r n = record { consumed = []; lines = 0; told = []; stands = k.stands; reads = sym h; text = t; count = r; number = n }

  pub is_playing : (run : Run P) (config read written : List ℕ) → RunIs kind run config read written → IsPlaying kind run.player
  is_playing run config read written k = record { config = config; lines = k.consumed; count = k.lines; told = k.told; stands = k.stands }

  -- it was played
  line_taken : (old new : Run P) (n : ℕ) (config read written : List ℕ) → RunIs kind old config read written → BeginsWithLine (held_of old.lines) n
      → PlaysLine kind old.player (take n (held_of old.lines)) old.text new.player new.text (Ok went.On) → held_of new.lines ≡ drop (suc n) (held_of old.lines) → new.read ≡ old.read + (n + 1) → new.number ≡ old.number + 1
      → RunIs kind new config read written
  line_taken old new n config read written k begins plays held er en =
      let line = take n (held_of old.lines) in
      let g = plays.goes config k.consumed k.lines k.told k.stands in
      let rest : held_of new.lines ≡ begins.rest = held ∙ line_rest n (held_of old.lines) begins.rest begins.is in
      let len : length (line ++ newline) ≡ n + 1 = line_length n (held_of old.lines) begins.within in
      record {
        consumed = k.consumed ++ (line ++ newline);
        lines = suc k.lines;
        told = k.told ++ g.added;
        stands = g.stands;
        reads = k.reads ∙ moved k.consumed (held_of old.lines) line begins.rest begins.is ∙ ap (λ (v : List ℕ). (k.consumed ++ (line ++ newline)) ++ v) (sym rest);
        text = ap (λ (v : List ℕ). written ++ v) g.text ∙ sym (append_assoc written old.text g.added) ∙ ap (λ (v : List ℕ). v ++ g.added) k.text;
        count = er ∙ omega (arith, k.count, len, length-append k.consumed (line ++ newline));
        number = en ∙ omega (arith, k.number);
      }

  -- ---- an end

  halted : (old new : Run P) (how : Status) (config read written : List ℕ) (left : Option (List ℕ)) (k : RunIs kind old config read written) → EndsAs (kind.Refuses old.player) (kind.may_end old.player) how k.consumed (held_of old.lines) left
      → new.text ≡ old.text → new.number ≡ old.number → (how ≡ status.Done → new.player ≡ old.player) → Halts kind new how config read written left
  halted old new how config read written left k ends et en ec = record {
    player = old.player;
    consumed = k.consumed;
    lines = k.lines;
    told = k.told;
    rest = held_of old.lines;
    stands = k.stands;
    reads = k.reads;
    ends = ends;
    text = ap (λ (v : List ℕ). written ++ v) et ∙ k.text;
    number = en ∙ k.number;
    stays = ec;
  }

  -- a line that is too long, or a session
  judged : (run : Run P) (config read written : List ℕ) (left : Option (List ℕ)) (k : RunIs kind run config read written) (n newlines : ℕ) (how : Status)
      → has_newline (take n (held_of run.lines)) ≡ false → n + newlines ≤ length (held_of run.lines) → newlines ≤ 1 → Judged run.read n newlines (Some how) → HaltsAs kind run how config read written left
  judged run config read written left k n newlines status.Session whole within one j =
      let er = k.count in
      halted run run status.Session config read written left k
      (Long (record { whole = unbroken_front (longest_line + 1) n (held_of run.lines) (omega (arith, j.0)) whole; within = omega (arith, j.0, within) }) (omega (arith, er, j.1)))
      refl refl (λ e. refl)
  judged run config read written left k n newlines status.TooLong whole within one j =
      let er = k.count in
      halted run run status.TooLong config read written left k
      (record {
        more = omega (arith, er, j.0, within);
        short = omega (arith, er, j.1);
        whole = unbroken_front (most_octets - length k.consumed) n (held_of run.lines) (omega (arith, er, j.0, one)) whole;
      })
      refl refl (λ e. refl)
  judged run config read written left k n newlines status.Done whole within one j = absurd j
  judged run config read written left k n newlines status.Usage whole within one j = absurd j
  judged run config read written left k n newlines status.Config whole within one j = absurd j
  judged run config read written left k n newlines status.ReadFault whole within one j = absurd j
  judged run config read written left k n newlines status.WriteFault whole within one j = absurd j
  judged run config read written left k n newlines status.Memory whole within one j = absurd j

judged_cause : (read n newlines : ℕ) (how : Status) → Judged read n newlines (Some how) → CausedBy ⊥ ⊥ (Err how)
judged_cause read n newlines status.Session j = tt
judged_cause read n newlines status.TooLong j = tt
judged_cause read n newlines status.Done j = tt
judged_cause read n newlines status.Usage j = tt
judged_cause read n newlines status.Config j = tt
judged_cause read n newlines status.ReadFault j = absurd j
judged_cause read n newlines status.WriteFault j = absurd j
judged_cause read n newlines status.Memory j = tt

-- a line that may be played: it is short enough, and ends within the session
pub may_play : (read n : ℕ) (found : Option Status) → found ≡ None → Judged read n 1 found → (n ≤ longest_line) × (read + n < most_octets)
may_play read n found e j = let P : Option Status → Type 0 = λ v. Judged read n 1 v in let i = subst P e j in (i.0, omega (arith, i.1))

known_kept : (a : Option (List ℕ)) → Appends a a []
known_kept None = tt
known_kept (Some x) = sym (append-nil x)

held_kept : (a : Option (List ℕ)) → Consumes a a []
held_kept None = tt
held_kept (Some x) = refl

same_held : (old new got : List ℕ) → new ≡ old ++ got → length new ≡ length old → new ≡ old
same_held old new got e len =
    let none : length got ≡ 0 = omega (arith, ap length e, length-append old got, len) in
    e ∙ ap (λ (v : List ℕ). old ++ v) (no_octets got none) ∙ append-nil old

module _ {P : Type 0} {kind : Kind P} where
  pub line_judged : (run : Run P) (n : ℕ) (found : Option Status) (how : Status) → BeginsWithLine (held_of run.lines) n → found ≡ Some how → Judged run.read n 1 found → TakesLine kind run run (Err how)
  line_judged run n found how begins e j =
      let Q : Option Status → Type 0 = λ v. Judged run.read n 1 v in let i = subst Q e j in
      record { goes = λ config read written left k. judged run config read written left k n 1 how begins.whole (omega (arith, begins.within)) (omega arith) i; caused = judged_cause run.read n 1 how i }

  has_line : (run : Run P) (config read written : List ℕ) (k : RunIs kind run config read written) (n : ℕ) → BeginsWithLine (held_of run.lines) n → (n ≤ longest_line) × (run.read + n < most_octets)
      → HasLine k.consumed (held_of run.lines) n
  has_line run config read written k n begins may = record { begins = begins; short = may.0; within = omega (arith, k.count, may.1) }

  pub line_refused : (old new : Run P) (n : ℕ) → BeginsWithLine (held_of old.lines) n → (n ≤ longest_line) × (old.read + n < most_octets)
      → PlaysLine kind old.player (take n (held_of old.lines)) old.text new.player new.text (Ok went.Refused) → new.number ≡ old.number → TakesLine kind old new (Err status.Session)
  line_refused old new n begins may plays en = record {
    goes = λ config read written left k.
        let g = plays.goes config k.consumed k.lines k.told k.stands in
        halted old new status.Session config read written left k (MayNotCome n (has_line old config read written k n begins may) g.0) g.1 en (λ e. absurd (none e));
    caused = tt;
  }
    where
      none : status.Session ≡ status.Done → ⊥
      none e = cc

  pub line_lost : (old new : Run P) (line : List ℕ) (x : NoMemory) → PlaysLine kind old.player line old.text new.player new.text (Err x) → new.number ≡ old.number → TakesLine kind old new (Err status.Memory)
  line_lost old new line x plays en = record {
    goes = λ config read written left k. halted old new status.Memory config read written left k tt (plays.goes config k.consumed k.lines k.told k.stands) en (λ e. absurd (none e));
    caused = tt;
  }
    where
      none : status.Memory ≡ status.Done → ⊥
      none e = cc

  pub line_on : (old new : Run P) (n : ℕ) → BeginsWithLine (held_of old.lines) n → PlaysLine kind old.player (take n (held_of old.lines)) old.text new.player new.text (Ok went.On)
      → held_of new.lines ≡ drop (n + 1) (held_of old.lines) → new.read ≡ old.read + (n + 1) → new.number ≡ old.number + 1 → TakesLine kind old new (Ok tt)
  line_on old new n begins plays held er en = record {
    goes = λ config read written left k. line_taken old new n config read written k begins plays (held ∙ ap (λ m. drop m (held_of old.lines)) (let s : n + 1 ≡ suc n = omega arith in s)) er en;
    caused = tt;
  }

  -- ---- writing

  -- the run is as it was, but for its text
  replayed : (old new : Run P) (config read written wrote : List ℕ) → RunIs kind old config read written → new.player ≡ old.player → wrote ++ new.text ≡ old.text
      → new.lines ≡ old.lines → new.read ≡ old.read → new.number ≡ old.number → RunIs kind new config read (written ++ wrote)
  replayed old new config read written wrote k ep et el er en = record {
    consumed = k.consumed;
    lines = k.lines;
    told = k.told;
    stands = (let Q : P → Type 0 = λ v. kind.Stands v config k.consumed k.lines k.told in subst Q (sym ep) k.stands);
    reads = k.reads ∙ ap (λ (v : List ℕ). k.consumed ++ v) (ap held_of (sym el));
    text = append_assoc written wrote new.text ∙ ap (λ (v : List ℕ). written ++ v) et ∙ k.text;
    count = er ∙ k.count;
    number = en ∙ k.number;
  }

  pub text_written : (old new : Run P) (out_old out_new : Option (List ℕ)) → Appends out_old out_new old.text → new.text ≡ [] → new.player ≡ old.player
      → new.lines ≡ old.lines → new.read ≡ old.read → new.number ≡ old.number → Writes kind old new out_old out_new (Ok tt)
  text_written old new out_old out_new a empty ep el er en = record {
    wrote = old.text;
    appends = a;
    goes = λ config read written left k. replayed old new config read written old.text k ep (ap (λ (v : List ℕ). old.text ++ v) empty ∙ append-nil old.text) el er en;
  }

  pub unwritten : (run : Run P) (out : Option (List ℕ)) → Writes kind run run out out (Ok tt)
  unwritten run out = record { wrote = []; appends = known_kept out; goes = λ config read written left k. replayed run run config read written [] k refl refl refl refl refl }

  -- the sink failed
  pub write_failed : (old new : Run P) (out_old out_new : Option (List ℕ)) → AppendsFront out_old out_new old.text → Writes kind old new out_old out_new (Err status.WriteFault)
  write_failed old new out_old out_new a = record {
    wrote = a.front;
    appends = a.appends;
    goes = λ config read written left k. record {
      status = status.Memory;
      whole = k.told;
      rest = a.rest;
      front = sym k.text ∙ ap (λ (v : List ℕ). written ++ v) a.is ∙ sym (append_assoc written a.front a.rest);
      tells = record {
        player = old.player;
        lines = k.consumed;
        count = k.lines;
        text = k.told;
        rest = held_of old.lines;
        last = [];
        stands = k.stands;
        reads = k.reads;
        ends = tt;
        is_last = refl;
        is = sym (append-nil k.told);
      };
    };
  }

  -- ---- reading

  -- more is held
  more_held : (old new : Run P) (config read written got : List ℕ) → RunIs kind old config read written → new.player ≡ old.player → new.text ≡ old.text → held_of new.lines ≡ held_of old.lines ++ got → new.read ≡ old.read → new.number ≡ old.number
      → RunIs kind new config (read ++ got) written
  more_held old new config read written got k ep et held er en = record {
    consumed = k.consumed;
    lines = k.lines;
    told = k.told;
    stands = (let Q : P → Type 0 = λ v. kind.Stands v config k.consumed k.lines k.told in subst Q (sym ep) k.stands);
    reads = ap (λ (v : List ℕ). v ++ got) k.reads ∙ append_assoc k.consumed (held_of old.lines) got ∙ ap (λ (v : List ℕ). k.consumed ++ v) (sym held);
    text = ap (λ (v : List ℕ). written ++ v) et ∙ k.text;
    count = er ∙ k.count;
    number = en ∙ k.number;
  }

  pub read_on : (old new : Run P) (left_old left_new : Option (List ℕ)) → Fills left_old left_new (held_of old.lines) (held_of new.lines) → new.player ≡ old.player → new.text ≡ old.text → new.read ≡ old.read → new.number ≡ old.number
      → Refills kind old new left_old left_new (Ok tt)
  read_on old new left_old left_new f ep et er en = record { got = f.got; consumes = f.consumes; goes = λ config read written k. more_held old new config read written f.got k ep et f.holds er en }

  pub read_ended : (old new : Run P) (left_old left_new : Option (List ℕ)) (how : Status) → Fills left_old left_new (held_of old.lines) (held_of new.lines) → length (held_of new.lines) ≡ length (held_of old.lines)
      → IsAtEnd left_new → new.player ≡ old.player → new.text ≡ old.text → new.read ≡ old.read → new.number ≡ old.number → has_newline (held_of old.lines) ≡ false → Judged old.read (length (held_of old.lines)) 0 None → AtEnd kind new how
      → Refills kind old new left_old left_new (Err how)
  read_ended old new left_old left_new how f len end ep et er en whole j a = record {
    got = f.got;
    consumes = f.consumes;
    goes = λ config read written k.
        a.goes config (read ++ f.got) written left_new (more_held old new config read written f.got k ep et f.holds er en)
        (let Q : List ℕ → Type 0 = λ v. has_newline v ≡ false in subst Q (sym (same_held (held_of old.lines) (held_of new.lines) f.got f.holds len)) whole)
        (omega (arith, j.1, len, er)) end;
  }

  pub read_failed : (old new : Run P) (left_old left_new : Option (List ℕ)) → Fills left_old left_new (held_of old.lines) (held_of new.lines) → held_of new.lines ≡ held_of old.lines
      → new.player ≡ old.player → new.text ≡ old.text → new.read ≡ old.read → new.number ≡ old.number → has_newline (held_of old.lines) ≡ false → Judged old.read (length (held_of old.lines)) 0 None
      → Refills kind old new left_old left_new (Err status.ReadFault)
  read_failed old new left_old left_new f same ep et er en whole j = record {
    got = f.got;
    consumes = f.consumes;
    goes = λ config read written k.
        let m = more_held old new config read written f.got k ep et f.holds er en in
        let len : length (held_of new.lines) ≡ length (held_of old.lines) = ap length same in
        halted new new status.ReadFault config (read ++ f.got) written left_new m
        (record {
          whole = (let Q : List ℕ → Type 0 = λ v. has_newline v ≡ false in subst Q (sym same) whole);
          short = omega (arith, j.0, len);
          within = omega (arith, j.1, len, m.count, er);
        }) refl refl (λ e. absurd (none e));
  }
    where
      none : status.ReadFault ≡ status.Done → ⊥
      none e = cc

-- ---- steps

appended : (a b c : Option (List ℕ)) (x y : List ℕ) → Appends a b x → Appends b c y → Appends a c (x ++ y)
appended None b c x y p q = tt
appended (Some x) None c bs cs p q = absurd p
appended (Some x) (Some y) None bs cs p q = absurd q
appended (Some x) (Some y) (Some z) bs cs p q = q ∙ ap (λ (l : List ℕ). l ++ cs) p ∙ append_assoc x bs cs

consumed : (a b c : Option (List ℕ)) (x y : List ℕ) → Consumes a b x → Consumes b c y → Consumes a c (x ++ y)
consumed None b c x y p q = tt
consumed (Some x) None c bs cs p q = absurd p
consumed (Some x) (Some y) None bs cs p q = absurd q
consumed (Some x) (Some y) (Some z) bs cs p q = p ∙ ap (λ (l : List ℕ). bs ++ l) q ∙ sym (append_assoc bs cs z)

-- what holds of a result, for read and written octets that are the same
abbrev EndsIn : {P : Type 0} → Kind P → Run P → Option (List ℕ) → Result (Unit {0}) Status → (config read written : List ℕ) → Type 0
EndsIn kind new left result config read written = MatchResult result (λ _. RunIs kind new config read written) (λ how. HaltsAs kind new how config read written left)

ends_same : {P : Type 0} (kind : Kind P) (new : Run P) (left : Option (List ℕ)) (result : Result (Unit {0}) Status) (config r s w v : List ℕ) → r ≡ s → w ≡ v → EndsIn kind new left result config r w → EndsIn kind new left result config s v
ends_same kind new left result config r s w v er ew e =
    let Q : List ℕ → Type 0 = λ x. EndsIn kind new left result config x w in let R : List ℕ → Type 0 = λ x. EndsIn kind new left result config s x in
    subst R ew (subst Q er e)

module _ {P : Type 0} {kind : Kind P} where
  -- no step yet
  pub no_step : (run : Run P) (left out : Option (List ℕ)) → Steps kind run run left left out out (Ok tt)
  no_step run left out = record {
    got = [];
    wrote = [];
    consumes = held_kept left;
    appends = known_kept out;
    goes = λ config read written k. ends_same kind run left (Ok tt) config read (read ++ []) written (written ++ []) (sym (append-nil read)) (sym (append-nil written)) k;
  }

  -- a step after others
  pub step_more : (old mid new : Run P) (left_old left_mid left_new out_old out_mid out_new : Option (List ℕ)) (result : Result (Unit {0}) Status)
      → Steps kind old mid left_old left_mid out_old out_mid (Ok tt) → Steps kind mid new left_mid left_new out_mid out_new result → Steps kind old new left_old left_new out_old out_new result
  step_more old mid new left_old left_mid left_new out_old out_mid out_new result a b = record {
    got = a.got ++ b.got;
    wrote = a.wrote ++ b.wrote;
    consumes = consumed left_old left_mid left_new a.got b.got a.consumes b.consumes;
    appends = appended out_old out_mid out_new a.wrote b.wrote a.appends b.appends;
    goes = λ config read written k. ends_same kind new left_new result config ((read ++ a.got) ++ b.got) (read ++ (a.got ++ b.got)) ((written ++ a.wrote) ++ b.wrote) (written ++ (a.wrote ++ b.wrote))
        (append_assoc read a.got b.got) (append_assoc written a.wrote b.wrote) (b.goes config (read ++ a.got) (written ++ a.wrote) (a.goes config read written k));
  }

  pub line_step : (old new : Run P) (left out : Option (List ℕ)) (result : Result (Unit {0}) Status) → TakesLine kind old new result → Steps kind old new left left out out result
  line_step old new left out result t = record {
    got = [];
    wrote = [];
    consumes = held_kept left;
    appends = known_kept out;
    goes = λ config read written k. ends_same kind new left result config read (read ++ []) written (written ++ []) (sym (append-nil read)) (sym (append-nil written)) (t.goes config read written left k);
  }

  pub write_step : (old new : Run P) (left out_old out_new : Option (List ℕ)) (result : Result (Unit {0}) Status) → Writes kind old new out_old out_new result → Steps kind old new left left out_old out_new result
  write_step old new left out_old out_new result t = record {
    got = [];
    wrote = t.wrote;
    consumes = held_kept left;
    appends = t.appends;
    goes = λ config read written k. ends_same kind new left result config read (read ++ []) (written ++ t.wrote) (written ++ t.wrote) (sym (append-nil read)) refl (t.goes config read written left k);
  }

  pub read_step : (old new : Run P) (left_old left_new out : Option (List ℕ)) (result : Result (Unit {0}) Status) → Refills kind old new left_old left_new result → Steps kind old new left_old left_new out out result
  read_step old new left_old left_new out result t = record {
    got = t.got;
    wrote = [];
    consumes = t.consumes;
    appends = known_kept out;
    goes = λ config read written k. ends_same kind new left_new result config (read ++ t.got) (read ++ t.got) written (written ++ []) refl (sym (append-nil written)) (t.goes config read written k);
  }

  pub judged_step : (run : Run P) (left out : Option (List ℕ)) (n : ℕ) (found : Option Status) (how : Status) → n ≡ length (held_of run.lines) → has_newline (held_of run.lines) ≡ false → found ≡ Some how → Judged run.read n 0 found
      → Steps kind run run left left out out (Err how) × CausedBy ⊥ ⊥ (Err how)
  judged_step run left out n found how len whole e j =
      let Q : Option Status → Type 0 = λ v. Judged run.read n 0 v in let i = subst Q e j in
      let R : List ℕ → Type 0 = λ v. has_newline v ≡ false in
      let all : take n (held_of run.lines) ≡ held_of run.lines = ap (λ m. take m (held_of run.lines)) len ∙ take-length (held_of run.lines) in (
        line_step run run left out (Err how) (record {
          goes = λ config read written left k. judged run config read written left k n 0 how (subst R (sym all) whole) (omega (arith, len)) (omega arith) i;
          caused = judged_cause run.read n 0 how i;
        }),
        judged_cause run.read n 0 how i,
      )

  -- ---- the line that was played is the one that is held

  pub line_as : (old new : P) (text_old text_new : List ℕ) (n : ℕ) (slice held : List ℕ) (found how : Went) → slice ≡ held → found ≡ how → PlaysLine kind old (take n slice) text_old new text_new (Ok found) → PlaysLine kind old (take n held) text_old new text_new (Ok how)
  line_as old new text_old text_new n slice held found how e f p =
      let Q : List ℕ → Type 0 = λ v. PlaysLine kind old (take n v) text_old new text_new (Ok found) in let R : Went → Type 0 = λ v. PlaysLine kind old (take n held) text_old new text_new (Ok v) in subst R f (subst Q e p)

-- ---- causes

pub rose_more : (a b c : ℕ) → a ≤ b → Rose b c → Rose a c
rose_more a b c le (inl lt) = inl (omega (arith, le, lt))
rose_more a b c le (inr e) = inr e

pub at_most_self : (n : ℕ) → n ≤ n
at_most_self n = omega arith

pub at_most_more : (a b c : ℕ) → a ≤ b → b ≤ c → a ≤ c
at_most_more a b c p q = omega (arith, p, q)

refused_spelled : (k : ℕ) → codes "refused line " ++ (decimal k ++ newline) ≡ numbered_line (codes "refused" ∷ codes "line" ∷ []) k
refused_spelled k = refl

long_spelled : codes "refused length session\n" ≡ codes "refused length session" ++ newline
long_spelled = refl

cut_back : (old new added : List ℕ) → new ≡ old ++ added → take (length old) new ≡ old
cut_back old new added e = ap (take (length old)) e ∙ take-append_seam old added

pub text_back : (old new : List ℕ) (n : ℕ) → Extends old new → n ≡ length old → take n new ≡ old
text_back old new n x e = ap (λ k. take k new) e ∙ cut_back old new x.added x.is

module _ {P : Type 0} {kind : Kind P} where
  -- ---- the end of what is written

  pub ends_added : (old : Run P) (how : Status) (new : List ℕ) → EndsText kind old how new → Adds kind old new how how
  ends_added old how new e = record {
    goes = λ config read written left k.
        let g = e.goes k.player k.lines k.number k.stays in
        record {
          player = k.player;
          lines = k.consumed;
          count = k.lines;
          text = k.told;
          rest = k.rest;
          last = g.0;
          stands = k.stands;
          reads = k.reads;
          ends = k.ends;
          is_last = g.2;
          is = ap (λ (v : List ℕ). written ++ v) g.1 ∙ sym (append_assoc written old.text g.0) ∙ ap (λ (v : List ℕ). v ++ g.0) k.text;
        };
  }

  pub ends_lost : (old : Run P) (how : Status) (new : List ℕ) → new ≡ old.text → Adds kind old new how status.Memory
  ends_lost old how new e = record {
    goes = λ config read written left k. record {
      player = k.player;
      lines = k.consumed;
      count = k.lines;
      text = k.told;
      rest = k.rest;
      last = [];
      stands = k.stands;
      reads = k.reads;
      ends = tt;
      is_last = refl;
      is = ap (λ (v : List ℕ). written ++ v) e ∙ k.text ∙ sym (append-nil k.told);
    };
  }

  tells_as : (how : Status) (config read text : List ℕ) (left : Option (List ℕ)) → Tells kind how config read text left → TellsAs kind how config read text left
  tells_as status.Done config read text left t = t
  tells_as status.Usage config read text left t = t
  tells_as status.Config config read text left t = t
  tells_as status.Session config read text left t = t
  tells_as status.ReadFault config read text left t = t
  tells_as status.WriteFault config read text left t = absurd t.ends
  tells_as status.Memory config read text left t = t
  tells_as status.TooLong config read text left t = t

  halts_of : (old : Run P) (how : Status) (config read written : List ℕ) (left : Option (List ℕ)) → (how ≡ status.WriteFault → ⊥) → HaltsAs kind old how config read written left → Halts kind old how config read written left
  halts_of old status.Done config read written left n k = k
  halts_of old status.Usage config read written left n k = k
  halts_of old status.Config config read written left n k = k
  halts_of old status.Session config read written left n k = k
  halts_of old status.ReadFault config read written left n k = k
  halts_of old status.WriteFault config read written left n k = absurd (n refl)
  halts_of old status.Memory config read written left n k = k
  halts_of old status.TooLong config read written left n k = k

  pub finished : (old : Run P) (how added : Status) (text : List ℕ) (out_old out_new : Option (List ℕ)) → (how ≡ status.WriteFault → ⊥) → Adds kind old text how added → Appends out_old out_new text → Finishes kind old how out_old out_new added
  finished old how added text out_old out_new n a p = record {
    wrote = text;
    appends = p;
    goes = λ config read written left k. tells_as added config read (written ++ text) left (a.goes config read written left (halts_of old how config read written left n k));
  }

  pub finish_failed : (old : Run P) (how added : Status) (text : List ℕ) (out_old out_new : Option (List ℕ)) → (how ≡ status.WriteFault → ⊥) → Adds kind old text how added → AppendsFront out_old out_new text
      → Finishes kind old how out_old out_new status.WriteFault
  finish_failed old how added text out_old out_new n a p = record {
    wrote = p.front;
    appends = p.appends;
    goes = λ config read written left k. record {
      status = added;
      whole = written ++ text;
      rest = p.rest;
      front = ap (λ (v : List ℕ). written ++ v) p.is ∙ sym (append_assoc written p.front p.rest);
      tells = a.goes config read written left (halts_of old how config read written left n k);
    };
  }

  pub finish_none : (old : Run P) (how : Status) (out : Option (List ℕ)) → how ≡ status.WriteFault → Finishes kind old how out out how
  finish_none old how out e = let Q : Status → Type 0 = λ v. Finishes kind old v out out v in subst Q (sym e) (record {
    wrote = [];
    appends = known_kept out;
    goes = λ config read written left k. let R : List ℕ → Type 0 = λ v. TellsFront kind config read v left in subst R (sym (append-nil written)) k;
  })

  -- ---- the last line

  ended_as : (old : Run P) (a how : Status) (new : List ℕ) → how ≡ a → EndsText kind old a new → EndsText kind old how new
  ended_as old a how new e k = let Q : Status → Type 0 = λ v. EndsText kind old v new in subst Q (sym e) k

  refused_text : (old : Run P) (new : List ℕ) → new ≡ old.text ++ (codes "refused line " ++ (decimal old.number ++ newline)) → EndsText kind old status.Session new
  refused_text old new e = record { goes = λ player lines n stays. (codes "refused line " ++ (decimal old.number ++ newline), e, ap (λ k. codes "refused line " ++ (decimal k ++ newline)) n ∙ refused_spelled (suc lines)) }

  long_text : (old : Run P) (new : List ℕ) → new ≡ old.text ++ codes "refused length session\n" → EndsText kind old status.TooLong new
  long_text old new e = record { goes = λ player lines n stays. (codes "refused length session\n", e, long_spelled) }

  summed : (old : Run P) (new : List ℕ) → AddsSummary kind old.player old.text new → EndsText kind old status.Done new
  summed old new s = record { goes = λ player lines n stays. (s.added, s.text, (let Q : P → Type 0 = λ v. kind.Sums v s.added in subst Q (stays refl) s.sums)) }

  -- other statuses have no last line of their own
  pub plain_ends : (old : Run P) (how : Status) → (how ≡ status.Done → ⊥) → (how ≡ status.Session → ⊥) → (how ≡ status.TooLong → ⊥) → EndsText kind old how old.text
  plain_ends old status.Done d s t = absurd (d refl)
  plain_ends old status.Session d s t = absurd (s refl)
  plain_ends old status.TooLong d s t = absurd (t refl)
  plain_ends old status.Usage d s t = record { goes = λ player lines n stays. ([], sym (append-nil old.text), refl) }
  plain_ends old status.Config d s t = record { goes = λ player lines n stays. ([], sym (append-nil old.text), refl) }
  plain_ends old status.ReadFault d s t = record { goes = λ player lines n stays. ([], sym (append-nil old.text), refl) }
  plain_ends old status.WriteFault d s t = record { goes = λ player lines n stays. ([], sym (append-nil old.text), refl) }
  plain_ends old status.Memory d s t = record { goes = λ player lines n stays. ([], sym (append-nil old.text), refl) }

  -- ---- the whole

  pub replayed_by : (run new : Run P) (config : List ℕ) (left_old left_new out_old out_mid out_new : Option (List ℕ)) (how result : Status) → RunIs kind run config [] [] → Steps kind run new left_old left_new out_old out_mid (Err how)
      → Finishes kind new how out_mid out_new result → Replayed kind config left_old left_new out_old out_new result
  replayed_by run new config left_old left_new out_old out_mid out_new how result k s f = record {
    read = s.got;
    text = s.wrote ++ f.wrote;
    consumes = s.consumes;
    appends = appended out_old out_mid out_new s.wrote f.wrote s.appends f.appends;
    tells = f.goes config s.got s.wrote left_new (s.goes config [] [] k);
  }

  -- the status isn't that of other words, nor that of a refused configuration
  pub not_usage : (run new : Run P) (config : List ℕ) (left_old left_new out_old out_new : Option (List ℕ)) (how : Status) → RunIs kind run config [] [] → Steps kind run new left_old left_new out_old out_new (Err how) → how ≡ status.Usage → ⊥
  not_usage run new config left_old left_new out_old out_new how k s e =
      let Q : Status → Type 0 = λ v. HaltsAs kind new v config s.got s.wrote left_new in
      (subst Q e (s.goes config [] [] k)).ends

  pub not_config : (run new : Run P) (config : List ℕ) (left_old left_new out_old out_new : Option (List ℕ)) (how : Status) → RunIs kind run config [] [] → Steps kind run new left_old left_new out_old out_new (Err how) → how ≡ status.Config → ⊥
  not_config run new config left_old left_new out_old out_new how k s e =
      let Q : Status → Type 0 = λ v. HaltsAs kind new v config s.got s.wrote left_new in
      (subst Q e (s.goes config [] [] k)).ends

pub refused_ends : {P : Type 0} (kind : Kind P) (old : Run P) (how : Status) (new : List ℕ) (r : Result (Unit {0}) NoMemory) → how ≡ status.Session → OnOk r (new ≡ old.text ++ (codes "refused line " ++ (decimal old.number ++ newline)))
    → OnOk r (EndsText kind old how new)
refused_ends kind old how new (Ok x) e k = ended_as old status.Session how new e (refused_text old new k)
refused_ends kind old how new (Err x) e k = tt

pub long_ends : {P : Type 0} (kind : Kind P) (old : Run P) (how : Status) (new : List ℕ) (r : Result (Unit {0}) NoMemory) → how ≡ status.TooLong → OnOk r (new ≡ old.text ++ codes "refused length session\n") → OnOk r (EndsText kind old how new)
long_ends kind old how new (Ok x) e k = ended_as old status.TooLong how new e (long_text old new k)
long_ends kind old how new (Err x) e k = tt

pub summed_ends : {P : Type 0} (kind : Kind P) (old : Run P) (how : Status) (new : List ℕ) (r : Result (Unit {0}) NoMemory) → how ≡ status.Done → OnOk r (AddsSummary kind old.player old.text new) → OnOk r (EndsText kind old how new)
summed_ends kind old how new (Ok x) e k = ended_as old status.Done how new e (summed old new k)
summed_ends kind old how new (Err x) e k = tt

-- ---- causes of the whole

cause_of : (a b : Type 0) (how : Status) → CausedBy a b (Err how) → how ≡ status.ReadFault → a
cause_of a b how c e = let P : Status → Type 0 = λ v. CausedBy a b (Err v) in subst P e c

sink_cause : (a b : Type 0) (how : Status) → CausedBy a b (Err how) → how ≡ status.WriteFault → b
sink_cause a b how c e = let P : Status → Type 0 = λ v. CausedBy a b (Err v) in subst P e c

pub read_cause : (a b : Type 0) (how result : Status) → CausedBy a b (Err how) → (result ≡ how) ⊎ (result ≡ status.Memory) ⊎ (result ≡ status.WriteFault) → result ≡ status.ReadFault → a
read_cause a b how result c (inl e) r = cause_of a b how c (sym e ∙ r)
read_cause a b how result c (inr (inl e)) r = absurd (no e r)
  where
    no : result ≡ status.Memory → result ≡ status.ReadFault → ⊥
    no e r = cc
read_cause a b how result c (inr (inr e)) r = absurd (no e r)
  where
    no : result ≡ status.WriteFault → result ≡ status.ReadFault → ⊥
    no e r = cc

rose_on : (a b c : ℕ) → Rose a b → a ≤ b → b ≤ c → Rose a c
rose_on a b c (inl lt) p q = inl (omega (arith, lt, q))
rose_on a b c (inr e) p q = by (less_or_same b c (omega (arith, q)))
  where
    by : (b < c) ⊎ (b ≡ c) → Rose a c
    by (inl less) = inl (omega (arith, p, less))
    by (inr same) = inr (sym same ∙ e)

pub write_cause : (source : Type 0) (one two three : ℕ) (how result : Status) → CausedBy source (Rose one two) (Err how) → one ≤ two → two ≤ three → (result ≡ status.WriteFault → (how ≡ status.WriteFault) ⊎ Rose two three)
    → result ≡ status.WriteFault → Rose one three
write_cause source one two three how result c p q cause e = by (cause e)
  where
    by : (how ≡ status.WriteFault) ⊎ Rose two three → Rose one three
    by (inl was) = rose_on one two three (sink_cause source (Rose one two) how c was) p q
    by (inr r) = rose_more one two three p r

pub other_result : (how result : Status) → (how ≡ status.Usage → ⊥) → (result ≡ how) ⊎ (result ≡ status.Memory) ⊎ (result ≡ status.WriteFault) → result ≡ status.Usage → ⊥
other_result how result n (inl e) u = n (sym e ∙ u)
other_result how result n (inr (inl e)) u = cc
other_result how result n (inr (inr e)) u = cc
