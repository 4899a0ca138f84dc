-- What a run of a wire session tells, in terms of its lines and its tape.
use Rattle.config_tables.specs.Reading.{config_of}
use Rattle.proxy_config.specs.declared.config.Config.{Config}
use Rattle.session_config.specs.ClusterNames.{names_in, resources_in}
use Rattle.session_lines.specs.WireLines.{NoLine, SpellsNoWire, WireLinesAre, WireSeen, is_headed, wire_text}
use Rattle.session_run.specs.Ending.{Cut, EndsAs, IsRefused, Long, MayNotCome}
use Rattle.session_run.specs.Kinds.{Kind}
use Rattle.session_run.specs.Runs.{HaltsAs, RunIs, Steps}
use Rattle.session_run.specs.Tells.{IsLast, Replayed, numbered_line}
use Rattle.session_run.specs.Tells as run
use Rattle.session_run.specs.declared.run.Run.{Run}
use Rattle.session_run.specs.declared.status.Status.{Status}
use Rattle.std.proofs.Common.{ap, inl, inr, refl, subst, sym, ◌∙◌}
use Rattle.std.proofs.lemmas.List.{append-nil}
use Rattle.std.specs.Io.KnownBytes.{Appends, Consumes}
use Rattle.std.specs.Prelude.{Bool, Err, List, None, Ok, Option, Some, [], codes, suc, ℕ, ◌++◌, ◌∷◌, ◌≡◌, ◌⊎◌}
use Rattle.tape_laws.specs.Text.{tape_text}
use Rattle.wire_run.proofs.Standing.{none_left}
use Rattle.wire_state.specs.Marks.{row_in}
use Rattle.wire_run.specs.Played.{Played, RefusesLine, can_end, wire_kind}
use Rattle.wire_run.specs.Tapes.{RunsWire, TellsWire, TellsWireAs, TellsWireFront, last_wire_text}
use Rattle.wire_run.specs.declared.play.WirePlay.{WirePlay}
use Rattle.session_run.specs.declared.status.Status.TheVariants as status

-- ---- how it ends

refused_of : (R S : List ℕ → Type 0) (b : Bool) (lines rest : List ℕ) (left : Option (List ℕ)) → ((line : List ℕ) → R line → S line) → IsRefused R b lines rest left → IsRefused S b lines rest left
refused_of R S b lines rest left f (MayNotCome n has r) = MayNotCome n has (f _ r)
refused_of R S b lines rest left f (Long broken short) = Long broken short
refused_of R S b lines rest left f (Cut none fits unended end) = Cut none fits unended end

pub ends_of : (how : Status) (R S : List ℕ → Type 0) (b : Bool) (lines rest : List ℕ) (left : Option (List ℕ)) → ((line : List ℕ) → R line → S line) → EndsAs R b how lines rest left → EndsAs S b how lines rest left
ends_of status.Done R S b lines rest left f e = e
ends_of status.Usage R S b lines rest left f e = e
ends_of status.Config R S b lines rest left f e = e
ends_of status.Session R S b lines rest left f e = refused_of R S b lines rest left f e
ends_of status.ReadFault R S b lines rest left f e = e
ends_of status.WriteFault R S b lines rest left f e = e
ends_of status.Memory R S b lines rest left f e = e
ends_of status.TooLong R S b lines rest left f e = e

wire_ends_of : (how : Status) (play : WirePlay) (names : List (List ℕ)) (resources : ℕ) (seen : WireSeen) (lines rest : List ℕ) (left : Option (List ℕ)) → WireLinesAre play.lines names resources seen → lines ≡ wire_text names seen
    → EndsAs (RefusesLine play) (can_end play) how lines rest left → EndsAs (SpellsNoWire names resources seen) (is_headed seen) how (wire_text names seen) rest left
wire_ends_of how play names resources seen lines rest left w e k =
    let P : Bool → Type 0 = λ b. EndsAs (SpellsNoWire names resources seen) b how (wire_text names seen) rest left in
    let Q : List ℕ → Type 0 = λ v. EndsAs (SpellsNoWire names resources seen) (can_end play) how v rest left in
    subst P w.headed_is (subst Q e (ends_of how (RefusesLine play) (SpellsNoWire names resources seen) (can_end play) lines rest left (λ line r. r.goes names resources seen w) k))

-- ---- its last line or lines, where each exchange passes the stages of some row

-- the rows that the marks of its world name
abbrev marked_rows : (play : WirePlay) (config_text lines : List ℕ) (count : ℕ) (told : List ℕ) → Played play config_text lines count told → ℕ → Option ℕ
marked_rows play config_text lines count told k x = row_in x k.rests.octets.world.marked

last_of : (how : Status) (play : WirePlay) (config_text lines : List ℕ) (count : ℕ) (told last : List ℕ) (k : Played play config_text lines count told) → IsLast wire_kind how play count last → last ≡ last_wire_text how k.config (marked_rows play config_text lines count told k) k.seen k.history
last_of status.Done play config_text lines count told last k i = i.goes k.config k.history k.rests
last_of status.Session play config_text lines count told last k i = i ∙ ap (λ n. numbered_line (codes "refused" ∷ codes "line" ∷ []) (suc n)) k.count_is
last_of status.TooLong play config_text lines count told last k i = i
last_of status.Usage play config_text lines count told last k i = i
last_of status.Config play config_text lines count told last k i = i
last_of status.ReadFault play config_text lines count told last k i = i
last_of status.WriteFault play config_text lines count told last k i = i
last_of status.Memory play config_text lines count told last k i = i

-- ---- the whole

pub told_of : (how : Status) (config_text read told : List ℕ) (left : Option (List ℕ)) → run.Tells wire_kind how config_text read told left → TellsWire how config_text read told left
told_of how config_text read told left t =
    let k = t.stands in
    let l = last_of how t.player config_text t.lines t.count t.text t.last k t.is_last in
    record {
      config = k.config;
      configured = k.configured;
      seen = k.seen;
      rows = marked_rows t.player config_text t.lines t.count t.text k;
      history = k.history;
      rest = t.rest;
      reads = t.reads ∙ ap (λ (v : List ℕ). v ++ t.rest) k.lines_are;
      tape = record { may = k.tape.may; shown = k.tape.shown; in_order = k.tape.in_order; spelled = k.tape.spelled; octets = k.rests.octets.world };
      marks = λ x. refl;
      ends = wire_ends_of how t.player (names_in k.config) (resources_in k.config) k.seen t.lines t.rest left k.read k.lines_are t.ends;
      is = t.is ∙ ap (λ (v : List ℕ). v ++ t.last) k.told_is ∙ ap (λ (v : List ℕ). tape_text (names_in k.config) k.history ++ v) l;
    }

front_of : (config_text read text : List ℕ) (left : Option (List ℕ)) → run.TellsFront wire_kind config_text read text left → TellsWireFront config_text read text left
front_of config_text read text left t = record { status = t.status; whole = t.whole; rest = t.rest; front = t.front; tells = told_of t.status config_text read t.whole left t.tells }

tells_of : (how : Status) (config_text read text : List ℕ) (left : Option (List ℕ)) → run.TellsAs wire_kind how config_text read text left → TellsWireAs how config_text read text left
tells_of status.Done config_text read text left t = told_of status.Done config_text read text left t
tells_of status.Usage config_text read text left t = told_of status.Usage config_text read text left t
tells_of status.Config config_text read text left t = told_of status.Config config_text read text left t
tells_of status.Session config_text read text left t = told_of status.Session config_text read text left t
tells_of status.ReadFault config_text read text left t = told_of status.ReadFault config_text read text left t
tells_of status.WriteFault config_text read text left t = front_of config_text read text left t
tells_of status.Memory config_text read text left t = told_of status.Memory config_text read text left t
tells_of status.TooLong config_text read text left t = told_of status.TooLong config_text read text left t

pub runs_of : (config_text : List ℕ) (left_old left_new out_old out_new : Option (List ℕ)) (how : Status) → Replayed wire_kind config_text left_old left_new out_old out_new how → RunsWire config_text left_old left_new out_old out_new how
runs_of config_text left_old left_new out_old out_new how r = record { read = r.read; text = r.text; consumes = r.consumes; appends = r.appends; tells = tells_of how config_text r.read r.text left_new r.tells }

pub held_kept : (a : Option (List ℕ)) → Consumes a a []
held_kept None = tt
held_kept (Some x) = refl

pub known_kept : (a : Option (List ℕ)) → Appends a a []
known_kept None = tt
known_kept (Some x) = sym (append-nil x)

-- memory was refused before the first line
pub runs_none : (config : Config) (config_text : List ℕ) (left out : Option (List ℕ)) (how : Status) → how ≡ status.Memory → config_of config_text ≡ Ok config → RunsWire config_text left left out out how
runs_none config config_text left out how e c =
    let P : Status → Type 0 = λ v. RunsWire config_text left left out out v in
    subst P (sym e) (record {
      read = [];
      text = [];
      consumes = held_kept left;
      appends = known_kept out;
      tells = record { config = config; configured = c; seen = NoLine; rows = λ x. None; history = []; rest = []; reads = refl; tape = record { may = tt; shown = refl; in_order = tt; spelled = tt; octets = none_left config }; ends = tt; marks = λ x. refl; is = refl };
    })

-- a session's status is never that of a configuration that is refused
pub not_config : {P : Type 0} {kind : Kind P} (run new : Run P) (config : List ℕ) (left_old left_new out_old out_new : Option (List ℕ)) (how : Status) → RunIs kind run config [] [] → Steps kind run new left_old left_new out_old out_new (Err how)
    → how ≡ status.Config → ⊥
not_config {kind = kind} run new config left_old left_new out_old out_new how k s e =
    let Q : Status → Type 0 = λ v. HaltsAs kind new v config s.got s.wrote left_new in
    (subst Q e (s.goes config [] [] k)).ends

pub other_config : (how result : Status) → (how ≡ status.Config → ⊥) → (result ≡ how) ⊎ (result ≡ status.Memory) ⊎ (result ≡ status.WriteFault) → result ≡ status.Config → ⊥
other_config how result n (inl e) u = n (sym e ∙ u)
other_config how result n (inr (inl e)) u = cc
other_config how result n (inr (inr e)) u = cc
