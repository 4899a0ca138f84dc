-- What a run tells, in terms of its lines and its tape.
use Rattle.config_tables.specs.Reading.{config_of}
use Rattle.proxy_config.specs.declared.config.Config.{Config}
use Rattle.session_config.specs.ClusterNames.{names_in, resources_in}
use Rattle.session_lines.specs.WireLines.{NoLine, WireLinesAre, WireSeen, is_headed, wire_events, wire_text}
use Rattle.session_run.specs.Ending.{EndsAs}
use Rattle.session_run.specs.Tells.{IsLast, Replayed, numbered_line}
use Rattle.session_run.specs.Tells as run
use Rattle.session_run.specs.declared.status.Status.{Status}
use Rattle.shed_run.specs.Played.{Played, RefusesLine, can_end, shed_kind}
use Rattle.shed_run.specs.ShedLines.{SpellsNoShed}
use Rattle.shed_run.specs.ShedTapes.{RunsShed, TellsShed, TellsShedAs, TellsShedFront}
use Rattle.shed_run.specs.ShedText.{lines_of, text_with}
use Rattle.shed_run.specs.declared.play.ShedPlay.{ShedPlay}
use Rattle.std.proofs.Common.{ap, refl, subst, sym, ◌∙◌}
use Rattle.std.specs.Prelude.{Bool, List, None, Ok, Option, [], codes, suc, ℕ, ◌++◌, ◌∷◌, ◌≡◌}
use Rattle.wire_run.proofs.Retelling.{ends_of, held_kept, known_kept}
use Rattle.wire_run.proofs.Standing.{none_left}
use Rattle.wire_run.specs.Tapes.{last_wire_text}
use Rattle.wire_state.specs.Marks.{row_in}
use Rattle.session_run.specs.declared.status.Status.TheVariants as status

-- ---- how it ends

shed_ends_of : (how : Status) (play : ShedPlay) (names : List (List ℕ)) (resources : ℕ) (seen : WireSeen) (lines rest : List ℕ) (left : Option (List ℕ)) → WireLinesAre play.play.lines names resources seen → lines ≡ wire_text names seen
    → EndsAs (RefusesLine play) (can_end play) how lines rest left → EndsAs (SpellsNoShed names resources seen) (is_headed seen) how (wire_text names seen) rest left
shed_ends_of how play names resources seen lines rest left w e k =
    let P : Bool → Type 0 = λ b. EndsAs (SpellsNoShed names resources seen) b how (wire_text names seen) rest left in
    let Q : List ℕ → Type 0 = λ v. EndsAs (SpellsNoShed names resources seen) (can_end play) how v rest left in
    subst P w.headed_is (subst Q e (ends_of how (RefusesLine play) (SpellsNoShed names resources seen) (can_end play) lines rest left (λ line r. r.goes names resources seen w) k))

-- ---- its last line or lines

abbrev marked_rows : (play : ShedPlay) (config_text lines : List ℕ) (count : ℕ) (told : List ℕ) → Played play config_text lines count told → ℕ → Option ℕ
marked_rows play config_text lines count told k x = row_in x k.is.rests.octets.world.marked

last_of : (how : Status) (play : ShedPlay) (config_text lines : List ℕ) (count : ℕ) (told last : List ℕ) (k : Played play config_text lines count told) → IsLast shed_kind how play count last → last ≡ last_wire_text how k.config (marked_rows play config_text lines count told k) k.seen k.history
last_of status.Done play config_text lines count told last k i = i.goes k.config k.history k.is.rests
last_of status.Session play config_text lines count told last k i = i ∙ ap (λ n. numbered_line (codes "refused" ∷ codes "line" ∷ []) (suc n)) k.count_is
last_of status.TooLong play config_text lines count told last k i = i
last_of status.Usage play config_text lines count told last k i = i
last_of status.Config play config_text lines count told last k i = i
last_of status.ReadFault play config_text lines count told last k i = i
last_of status.WriteFault play config_text lines count told last k i = i
last_of status.Memory play config_text lines count told last k i = i

-- ---- the whole

pub told_of : (how : Status) (config_text read told : List ℕ) (left : Option (List ℕ)) → run.Tells shed_kind how config_text read told left → TellsShed how config_text read told left
told_of how config_text read told left t =
    let k = t.stands in
    let l = last_of how t.player config_text t.lines t.count t.text t.last k t.is_last in
    record {
      config = k.config;
      configured = k.configured;
      seen = k.seen;
      rows = marked_rows t.player config_text t.lines t.count t.text k;
      history = k.history;
      rest = t.rest;
      reads = t.reads ∙ ap (λ (v : List ℕ). v ++ t.rest) k.lines_are;
      may = k.is.may;
      tape = record { may = k.is.tape.may; shown = k.is.tape.shown; in_order = k.is.tape.in_order; spelled = k.is.tape.spelled; octets = k.is.rests.octets.world };
      marks = λ x. refl;
      ends = shed_ends_of how t.player (names_in k.config) (resources_in k.config) k.seen t.lines t.rest left k.read k.lines_are t.ends;
      is = t.is ∙ ap (λ (v : List ℕ). v ++ t.last) k.told_is ∙ ap (λ (v : List ℕ). text_with (names_in k.config) (lines_of k.config.overload.shed (wire_events k.seen)) k.history ++ v) l;
    }

front_of : (config_text read text : List ℕ) (left : Option (List ℕ)) → run.TellsFront shed_kind config_text read text left → TellsShedFront config_text read text left
front_of config_text read text left t = record { status = t.status; whole = t.whole; rest = t.rest; front = t.front; tells = told_of t.status config_text read t.whole left t.tells }

tells_of : (how : Status) (config_text read text : List ℕ) (left : Option (List ℕ)) → run.TellsAs shed_kind how config_text read text left → TellsShedAs how config_text read text left
tells_of status.Done config_text read text left t = told_of status.Done config_text read text left t
tells_of status.Usage config_text read text left t = told_of status.Usage config_text read text left t
tells_of status.Config config_text read text left t = told_of status.Config config_text read text left t
tells_of status.Session config_text read text left t = told_of status.Session config_text read text left t
tells_of status.ReadFault config_text read text left t = told_of status.ReadFault config_text read text left t
tells_of status.WriteFault config_text read text left t = front_of config_text read text left t
tells_of status.Memory config_text read text left t = told_of status.Memory config_text read text left t
tells_of status.TooLong config_text read text left t = told_of status.TooLong config_text read text left t

pub runs_of : (config_text : List ℕ) (left_old left_new out_old out_new : Option (List ℕ)) (how : Status) → Replayed shed_kind config_text left_old left_new out_old out_new how → RunsShed config_text left_old left_new out_old out_new how
runs_of config_text left_old left_new out_old out_new how r = record { read = r.read; text = r.text; consumes = r.consumes; appends = r.appends; tells = tells_of how config_text r.read r.text left_new r.tells }

-- memory was refused before the first line
pub runs_none : (config : Config) (config_text : List ℕ) (left out : Option (List ℕ)) (how : Status) → how ≡ status.Memory → config_of config_text ≡ Ok config → RunsShed config_text left left out out how
runs_none config config_text left out how e c =
    let P : Status → Type 0 = λ v. RunsShed config_text left left out out v in
    subst P (sym e) (record {
      read = [];
      text = [];
      consumes = held_kept left;
      appends = known_kept out;
      tells = record {
        config = config;
        configured = c;
        seen = NoLine;
        rows = λ x. None;
        history = [];
        rest = [];
        reads = refl;
        may = record { may = tt; none_own = tt };
        tape = record { may = tt; shown = refl; in_order = tt; spelled = tt; octets = none_left config };
        ends = tt;
        marks = λ x. refl;
        is = refl;
      };
    })
