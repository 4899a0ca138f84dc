-- What a run of a relay's session tells, in terms of its lines and its tape.
use Rattle.config_tables.specs.Reading.{config_of}
use Rattle.proxy_config.specs.declared.config.Config.{Config}
use Rattle.relay_laws.specs.Lawful.{IsRelayWhole}
use Rattle.relay_laws.specs.Pairs.{Tape}
use Rattle.relay_laws.specs.Promise.{Relays}
use Rattle.relay_laws.specs.Session.{IsTape}
use Rattle.relay_run.specs.Lines.{SpellsNoRelay, seen_tape}
use Rattle.relay_run.specs.Played.{PlayIs, Played, RefusesLine, can_end, relay_kind}
use Rattle.relay_run.specs.Replays.{IsTapeOf, ReplaysRelay, TellsRelay, TellsRelayAs, TellsRelayFront, last_text}
use Rattle.relay_run.specs.Terms.{limit_of}
use Rattle.session_config.specs.ClusterNames.{names_in}
use Rattle.relay_run.specs.declared.play.RelayPlay.{RelayPlay}
use Rattle.session_lines.specs.WireLines.{NoLine, WireSeen, is_headed, wire_text}
use Rattle.session_run.specs.Ending.{Cut, EndsAs, IsRefused, Long, MayNotCome}
use Rattle.session_run.specs.Tells.{IsLast, Replayed, numbered_line}
use Rattle.session_run.specs.Tells as run
use Rattle.session_run.specs.declared.status.Status.{Status}
use Rattle.std.proofs.Common.{ap, refl, subst, sym, ◌∙◌}
use Rattle.std.proofs.lemmas.List.{append-nil}
use Rattle.std.specs.Io.KnownBytes.{Appends, Consumes}
use Rattle.std.specs.Prelude.{Bool, List, None, Ok, Option, Some, [], codes, suc, ℕ, ◌++◌, ◌∷◌, ◌≡◌}
use Rattle.tape_laws.specs.Text.{tape_text}
use Rattle.session_run.specs.declared.status.Status.TheVariants as status

-- ---- how it ends
refused_of : (R S : List ℕ → Type 0) (b : Bool) (lines rest : List ℕ) (left : Option (List ℕ)) → ((line : List ℕ) → R line → S line) → IsRefused R b lines rest left → IsRefused S b lines rest left
refused_of R S b lines rest left f (MayNotCome n has r) = MayNotCome n has (f _ r)
refused_of R S b lines rest left f (Long broken short) = Long broken short
refused_of R S b lines rest left f (Cut none fits unended end) = Cut none fits unended end

ends_of : (how : Status) (R S : List ℕ → Type 0) (b : Bool) (lines rest : List ℕ) (left : Option (List ℕ)) → ((line : List ℕ) → R line → S line) → EndsAs R b how lines rest left → EndsAs S b how lines rest left
ends_of status.Done R S b lines rest left f e = e
ends_of status.Usage R S b lines rest left f e = e
ends_of status.Config R S b lines rest left f e = e
ends_of status.Session R S b lines rest left f e = refused_of R S b lines rest left f e
ends_of status.ReadFault R S b lines rest left f e = e
ends_of status.WriteFault R S b lines rest left f e = e
ends_of status.Memory R S b lines rest left f e = e
ends_of status.TooLong R S b lines rest left f e = e

relay_ends : (how : Status) (config : Config) (play : RelayPlay) (seen : WireSeen) (lines rest : List ℕ) (left : Option (List ℕ)) → PlayIs config play seen → lines ≡ wire_text (names_in config) seen
    → EndsAs (RefusesLine play) (can_end play) how lines rest left → EndsAs (SpellsNoRelay config seen) (is_headed seen) how (wire_text (names_in config) seen) rest left
relay_ends how config play seen lines rest left p e k =
    let P : Bool → Type 0 = λ b. EndsAs (SpellsNoRelay config seen) b how (wire_text (names_in config) seen) rest left in
    let Q : List ℕ → Type 0 = λ v. EndsAs (SpellsNoRelay config seen) (can_end play) how v rest left in
    subst P p.lines.headed_is (subst Q e (ends_of how (RefusesLine play) (SpellsNoRelay config seen) (can_end play) lines rest left (λ line r. r.goes config seen p) k))

-- ---- its last line or lines
last_of : (how : Status) (play : RelayPlay) (count : ℕ) (last config_text lines told : List ℕ) (k : Played play config_text lines count told) → IsLast relay_kind how play count last
    → last ≡ last_text how k.config k.seen (seen_tape k.config k.seen)
last_of status.Done play count last config_text lines told k i = i.goes (limit_of k.config) (seen_tape k.config k.seen) k.plays.logs
last_of status.Session play count last config_text lines told k i = i ∙ ap (λ n. numbered_line (codes "refused" ∷ codes "line" ∷ []) (suc n)) k.count_is
last_of status.TooLong play count last config_text lines told k i = i
last_of status.Usage play count last config_text lines told k i = i
last_of status.Config play count last config_text lines told k i = i
last_of status.ReadFault play count last config_text lines told k i = i
last_of status.WriteFault play count last config_text lines told k i = i
last_of status.Memory play count last config_text lines told k i = i

-- ---- the whole, given the laws of a session's tape
abbrev pub AreLawful : Type 0
AreLawful = (limit : ℕ) (names : List (List ℕ)) (h : Tape) → IsTape limit names h → IsRelayWhole limit h

abbrev pub KeepPromise : Type 0
KeepPromise = (limit : ℕ) (names : List (List ℕ)) (h : Tape) → IsTape limit names h → Relays limit h

known_kept : (a : Option (List ℕ)) → Appends a a []
known_kept None = tt
known_kept (Some x) = sym (append-nil x)

held_kept : (a : Option (List ℕ)) → Consumes a a []
held_kept None = tt
held_kept (Some x) = refl

module _ (lawful : AreLawful) (promise : KeepPromise) where
  tape_of : (config : Config) (play : RelayPlay) (seen : WireSeen) → PlayIs config play seen → IsTapeOf config seen (seen_tape config seen)
  tape_of config play seen p = record {
    may = p.may;
    is = refl;
    shown = p.shown;
    lawful = lawful (limit_of config) (names_in config) (seen_tape config seen) p.rests.tape;
    promise = promise (limit_of config) (names_in config) (seen_tape config seen) p.rests.tape;
  }

  told_of : (how : Status) (config_text read told : List ℕ) (left : Option (List ℕ)) → run.Tells relay_kind how config_text read told left → TellsRelay how config_text read told left
  told_of how config_text read told left t =
      let k = t.stands in
      record {
        config = k.config;
        configured = k.configured;
        seen = k.seen;
        history = seen_tape k.config k.seen;
        rest = t.rest;
        reads = t.reads ∙ ap (λ (v : List ℕ). v ++ t.rest) k.lines_are;
        tape = tape_of k.config t.player k.seen k.plays;
        ends = relay_ends how k.config t.player k.seen t.lines t.rest left k.plays k.lines_are t.ends;
        is = t.is ∙ ap (λ (v : List ℕ). v ++ t.last) k.told_is
            ∙ ap (λ (v : List ℕ). tape_text (names_in k.config) (seen_tape k.config k.seen) ++ v) (last_of how t.player t.count t.last config_text t.lines t.text k t.is_last);
      }

  front_of : (config_text read text : List ℕ) (left : Option (List ℕ)) → run.TellsFront relay_kind config_text read text left → TellsRelayFront config_text read text left
  front_of config_text read text left t = record { status = t.status; whole = t.whole; rest = t.rest; front = t.front; tells = told_of t.status config_text read t.whole left t.tells }

  tells_of : (how : Status) (config_text read text : List ℕ) (left : Option (List ℕ)) → run.TellsAs relay_kind how config_text read text left → TellsRelayAs how config_text read text left
  tells_of status.Done config_text read text left t = told_of status.Done config_text read text left t
  tells_of status.Usage config_text read text left t = told_of status.Usage config_text read text left t
  tells_of status.Config config_text read text left t = told_of status.Config config_text read text left t
  tells_of status.Session config_text read text left t = told_of status.Session config_text read text left t
  tells_of status.ReadFault config_text read text left t = told_of status.ReadFault config_text read text left t
  tells_of status.WriteFault config_text read text left t = front_of config_text read text left t
  tells_of status.Memory config_text read text left t = told_of status.Memory config_text read text left t
  tells_of status.TooLong config_text read text left t = told_of status.TooLong config_text read text left t

  pub replays_of : (config_text : List ℕ) (left_old left_new out_old out_new : Option (List ℕ)) (how : Status) → Replayed relay_kind config_text left_old left_new out_old out_new how
      → ReplaysRelay config_text left_old left_new out_old out_new how
  replays_of config_text left_old left_new out_old out_new how r = record { read = r.read; text = r.text; consumes = r.consumes; appends = r.appends; tells = tells_of how config_text r.read r.text left_new r.tells }

  -- out of memory before the first line
  pub replays_none : (config : Config) (config_text : List ℕ) (left out : Option (List ℕ)) (how : Status) → config_of config_text ≡ Ok config → how ≡ status.Memory → ReplaysRelay config_text left left out out how
  replays_none config config_text left out how configured e =
      let P : Status → Type 0 = λ v. ReplaysRelay config_text left left out out v in
      subst P (sym e) (record {
        read = [];
        text = [];
        consumes = held_kept left;
        appends = known_kept out;
        tells = record {
          config = config;
          configured = configured;
          seen = NoLine;
          history = [];
          rest = [];
          reads = refl;
          tape = record {
            may = tt;
            is = refl;
            shown = refl;
            lawful = lawful (limit_of config) (names_in config) [] (record { is = refl; follows = tt });
            promise = promise (limit_of config) (names_in config) [] (record { is = refl; follows = tt });
          };
          ends = tt;
          is = refl;
        };
      })
