-- What a run of a plain session tells, in terms of its lines and its tape.
use Rattle.plain_laws.proofs.Headlines.{headline_of}
use Rattle.replay_run.proofs.Connected.{tape_connection}
use Rattle.replay_run.proofs.Empty.{empty_whole}
use Rattle.replay_run.specs.DrillEvents.{drill_limits}
use Rattle.replay_run.specs.SeenTape.{IsTape}
use Rattle.replay_run.specs.Played.{Played, RefusesLine, can_end, plain_kind}
use Rattle.replay_run.specs.Replays.{Replays, Tells, TellsAs, TellsFront, last_text}
use Rattle.replay_run.specs.declared.play.Play.{Play}
use Rattle.session_lines.proofs.Readings.{seen_at}
use Rattle.session_lines.specs.Orders.{OrderIs}
use Rattle.session_lines.specs.Seen.{Seen, SpellsNothing, Unread, is_playing, seen_text}
use Rattle.session_run.specs.Ending.{Cut, EndsAs, IsRefused, Long, MayNotCome}
use Rattle.session_run.specs.Tells.{IsLast, Replayed, numbered_line}
use Rattle.session_run.specs.Tells as run
use Rattle.session_run.specs.declared.status.Status.{Status}
use Rattle.std.proofs.Common.{ap, refl, subst, sym, ◌∙◌}
use Rattle.std.proofs.lemmas.List.{append-nil}
use Rattle.std.specs.Io.KnownBytes.{Appends, Consumes}
use Rattle.std.specs.Prelude.{Bool, List, None, Option, Some, [], codes, suc, ℕ, ◌++◌, ◌∷◌, ◌≡◌}
use Rattle.tape_laws.specs.History.{History, NoMark}
use Rattle.tape_laws.specs.Text.{tape_text}
use Rattle.tape_laws.specs.declared.PlainLimits.{PlainLimits}
use Rattle.session_run.specs.declared.status.Status.TheVariants as status

-- ---- how it ends

refused_of : (R S : List ℕ → Type 0) (b : Bool) (lines rest : List ℕ) (left : Option (List ℕ)) → ((line : List ℕ) → R line → S line) → IsRefused R b lines rest left → IsRefused S b lines rest left
refused_of R S b lines rest left f (MayNotCome n has r) = MayNotCome n has (f _ r)
refused_of R S b lines rest left f (Long broken short) = Long broken short
refused_of R S b lines rest left f (Cut none fits unended end) = Cut none fits unended end

ends_of : (how : Status) (R S : List ℕ → Type 0) (b : Bool) (lines rest : List ℕ) (left : Option (List ℕ)) → ((line : List ℕ) → R line → S line) → EndsAs R b how lines rest left → EndsAs S b how lines rest left
ends_of status.Done R S b lines rest left f e = e
ends_of status.Usage R S b lines rest left f e = e
ends_of status.Config R S b lines rest left f e = e
ends_of status.Session R S b lines rest left f e = refused_of R S b lines rest left f e
ends_of status.ReadFault R S b lines rest left f e = e
ends_of status.WriteFault R S b lines rest left f e = e
ends_of status.Memory R S b lines rest left f e = e
ends_of status.TooLong R S b lines rest left f e = e

plain_ends_of : (how : Status) (play : Play) (seen : Seen) (lines rest : List ℕ) (left : Option (List ℕ)) → OrderIs play.order seen → lines ≡ seen_text seen → EndsAs (RefusesLine play) (can_end play) how lines rest left
    → EndsAs (SpellsNothing seen) (is_playing seen) how (seen_text seen) rest left
plain_ends_of how play seen lines rest left o e k =
    let P : Bool → Type 0 = λ b. EndsAs (SpellsNothing seen) b how (seen_text seen) rest left in
    let Q : List ℕ → Type 0 = λ v. EndsAs (SpellsNothing seen) (can_end play) how v rest left in
    subst P (seen_at play.order.stage seen o.stage) (subst Q e (ends_of how (RefusesLine play) (SpellsNothing seen) (can_end play) lines rest left (λ line r. r.goes seen o) k))

-- ---- its last line or lines

last_of : (how : Status) (play : Play) (count : ℕ) (last : List ℕ) (seen : Seen) (limits : PlainLimits) (h : History NoMark) (config lines told : List ℕ) (k : Played play config lines count told) → k.seen ≡ seen → k.limits ≡ limits → k.history ≡ h
    → IsLast plain_kind how play count last → last ≡ last_text how k.seen k.limits k.history
last_of status.Done play count last seen limits h config lines told k es el eh i = i.goes k.limits k.history k.logs (tape_connection k.seen k.limits k.limits k.history k.tape)
last_of status.Session play count last seen limits h config lines told k es el eh i = i ∙ ap (λ n. numbered_line (codes "refused" ∷ codes "line" ∷ []) (suc n)) k.count_is
last_of status.TooLong play count last seen limits h config lines told k es el eh i = i
last_of status.Usage play count last seen limits h config lines told k es el eh i = i
last_of status.Config play count last seen limits h config lines told k es el eh i = i
last_of status.ReadFault play count last seen limits h config lines told k es el eh i = i
last_of status.WriteFault play count last seen limits h config lines told k es el eh i = i
last_of status.Memory play count last seen limits h config lines told k es el eh i = i

-- ---- the whole

told_of : (how : Status) (config read told : List ℕ) (left : Option (List ℕ)) → run.Tells plain_kind how config read told left → Tells how read told left
told_of how config read told left t =
    let k = t.stands in
    record {
      seen = k.seen;
      limits = k.limits;
      history = k.history;
      rest = t.rest;
      reads = t.reads ∙ ap (λ (v : List ℕ). v ++ t.rest) k.lines_are;
      tape = k.tape;
      headline = headline_of k.limits k.history k.tape.whole;
      ends = plain_ends_of how t.player k.seen t.lines t.rest left k.order k.lines_are t.ends;
      is = t.is ∙ ap (λ (v : List ℕ). v ++ t.last) k.told_is ∙ ap (λ (v : List ℕ). tape_text [] k.history ++ v) (last_of how t.player t.count t.last k.seen k.limits k.history config t.lines t.text k refl refl refl t.is_last);
    }

front_of : (config read text : List ℕ) (left : Option (List ℕ)) → run.TellsFront plain_kind config read text left → TellsFront read text left
front_of config read text left t = record { status = t.status; whole = t.whole; rest = t.rest; front = t.front; tells = told_of t.status config read t.whole left t.tells }

tells_of : (how : Status) (config read text : List ℕ) (left : Option (List ℕ)) → run.TellsAs plain_kind how config read text left → TellsAs how read text left
tells_of status.Done config read text left t = told_of status.Done config read text left t
tells_of status.Usage config read text left t = absurd t.ends
tells_of status.Config config read text left t = told_of status.Config config read text left t
tells_of status.Session config read text left t = told_of status.Session config read text left t
tells_of status.ReadFault config read text left t = told_of status.ReadFault config read text left t
tells_of status.WriteFault config read text left t = front_of config read text left t
tells_of status.Memory config read text left t = told_of status.Memory config read text left t
tells_of status.TooLong config read text left t = told_of status.TooLong config read text left t

pub replays_of : (config : List ℕ) (left_old left_new out_old out_new : Option (List ℕ)) (how : Status) → Replayed plain_kind config left_old left_new out_old out_new how → Replays left_old left_new out_old out_new how
replays_of config left_old left_new out_old out_new how r = record { read = r.read; text = r.text; consumes = r.consumes; appends = r.appends; tells = tells_of how config r.read r.text left_new r.tells }

held_kept : (a : Option (List ℕ)) → Consumes a a []
held_kept None = tt
held_kept (Some x) = refl

known_kept : (a : Option (List ℕ)) → Appends a a []
known_kept None = tt
known_kept (Some x) = sym (append-nil x)

pub replays_none : (left out : Option (List ℕ)) → Replays left left out out status.Memory
replays_none left out = record {
  read = [];
  text = [];
  consumes = held_kept left;
  appends = known_kept out;
  tells = record { seen = Unread; limits = drill_limits; history = []; rest = []; reads = refl; tape = empty_tape; headline = headline_of drill_limits [] (empty_whole drill_limits); ends = tt; is = refl };
}
  where
    empty_tape : IsTape Unread drill_limits []
    empty_tape = record { may = tt; limited = refl; whole = empty_whole drill_limits; events = refl }
