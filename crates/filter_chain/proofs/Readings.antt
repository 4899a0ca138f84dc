-- What is read of a place, in terms of its stage.
use Rattle.std.proofs.Common.{◌≡◌, ◌+◌, ◌-◌, ◌<◌, ◌≤◌, ◌∙◌, ◌&&◌, ◌==◌, ℕ, suc, zero, List, [], ◌∷◌, drop, length, take, min, Bool, true, false, refl, sym, ap, arith}
use Rattle.std.proofs.Math.ListN.{get_or, get_or-map}
use Rattle.std.proofs.Math.Numerals.{add-one}
use Rattle.std.proofs.Math.Seq.{drop-cons}
use Rattle.std.proofs.lemmas.List.{length-map}
use Rattle.std.proofs.lemmas.List.Folds.{list_all_more}
use Rattle.std.specs.List.{list_all}
use Rattle.std.specs.Option.{option_map_or}
use Rattle.std.specs.Prelude.{None, Option, Some, if◌then◌else◌, not, ◌||◌}
use Rattle.filter_chain.proofs.Row.{stage_octets, stage_place}
use Rattle.filter_chain.specs.Chain.{Chain, limit_at, octets_at, octets_in, place_at}
use Rattle.filter_chain.specs.Place.{Place, is_hold}
use Rattle.filter_chain.specs.Release.{empty_before, holds_filled, is_empty_at, is_whole_at, let_go, may_release}
use Rattle.filter_chain.specs.Stage.{place_of, places_of}
use Rattle.filter_chain.specs.declared.stage.Stage.{Stage}
use Rattle.filter_chain.specs.declared.stage.StageKind.{StageKind}
use Rattle.filter_chain.specs.declared.stage.StageKind.TheVariants.{Hold, Meter, Send}

pub at_place : (chain : Chain) (stages : List Stage) (p : ℕ) (s : Stage) → places_of stages ≡ chain.places → 1 ≤ p → p ≤ length chain.places → s ≡ get_or stages (p - 1) s → place_at chain.places p ≡ Some (place_of s)
at_place chain stages p s seen first last is =
    let len : length chain.places ≡ length stages = sym (ap length seen) ∙ length-map stages place_of in
    ap (λ ps. place_at ps p) (sym seen) ∙ (stage_place stages (p - 1) p s (omega arith) (omega arith) ∙ ap (λ x. Some (place_of x)) (sym is))

pub octets_is : (chain : Chain) (p : ℕ) (x : Place) → place_at chain.places p ≡ Some x → octets_at chain p ≡ x.octets
octets_is chain p x at = ap (λ (o : Option Place). option_map_or (λ place. place.octets) o []) at

pub limit_is : (chain : Chain) (p : ℕ) (x : Place) → place_at chain.places p ≡ Some x → limit_at chain p ≡ x.limit
limit_is chain p x at = ap (λ (o : Option Place). option_map_or (λ place. place.limit) o 0) at

-- what a place of each kind may release
may_be : (chain : Chain) (p : ℕ) (x : Place) (kind : StageKind) → place_at chain.places p ≡ Some x → x.kind ≡ kind → may_release chain p ≡ let_go chain p kind x
may_be chain p x kind at is =
    ap (λ (o : Option Place). option_map_or (λ place. let_go chain p place.kind place) o 0) at ∙ ap (λ k. let_go chain p k x) is

pub hold_releases : (chain : Chain) (p : ℕ) (x : Place) → place_at chain.places p ≡ Some x → x.kind ≡ Hold → is_whole_at chain p ≡ true → may_release chain p ≡ min chain.quantum (length x.octets)
hold_releases chain p x at is whole = may_be chain p x Hold at is ∙ ap (λ b. if b then min chain.quantum (length x.octets) else 0) whole

pub hold_waits : (chain : Chain) (p : ℕ) (x : Place) → place_at chain.places p ≡ Some x → x.kind ≡ Hold → is_whole_at chain p ≡ false → may_release chain p ≡ 0
hold_waits chain p x at is whole = may_be chain p x Hold at is ∙ ap (λ b. if b then min chain.quantum (length x.octets) else 0) whole

pub meter_releases : (chain : Chain) (p rate : ℕ) (x : Place) → place_at chain.places p ≡ Some x → x.kind ≡ Meter rate → may_release chain p ≡ min (min chain.quantum (length x.octets)) x.tokens
meter_releases chain p rate x at is = may_be chain p x (Meter rate) at is

pub send_releases : (chain : Chain) (p : ℕ) (x : Place) → place_at chain.places p ≡ Some x → x.kind ≡ Send → may_release chain p ≡ 0
send_releases chain p x at is = may_be chain p x Send at is

-- all before a stage is empty
abbrev pub has_none : Stage → Bool
has_none stage = length stage.buffer.octets == 0

turned : (a b c : Bool) → (c && (a && b)) ≡ (a && (b && c))
turned true true true = refl
turned true true false = refl
turned true false true = refl
turned true false false = refl
turned false true true = refl
turned false true false = refl
turned false false true = refl
turned false false false = refl

empty_before_is : (chain : Chain) (stages : List Stage) (d : Stage) (i : ℕ) → places_of stages ≡ chain.places → i ≤ length stages → empty_before chain (suc i) ≡ (chain.recv_empty && list_all has_none (take i stages))
empty_before_is chain stages d zero seen within = refl
empty_before_is chain stages d (suc i) seen within =
    let at : octets_at chain (suc i) ≡ (get_or stages i d).buffer.octets =
    ap (λ ps. octets_in ps (suc i)) (sym seen) ∙ stage_octets stages i (suc i) d (sym (add-one i)) (omega arith) in
    let one : is_empty_at chain (suc i) ≡ has_none (get_or stages i d) = ap (λ (octets : List ℕ). length octets == 0) at in
    let rest : empty_before chain (suc i) ≡ (chain.recv_empty && list_all has_none (take i stages)) =
    empty_before_is chain stages d i seen (omega arith) in
    let more : list_all has_none (take (suc i) stages) ≡ (list_all has_none (take i stages) && has_none (get_or stages i d)) =
    ap (λ k. list_all has_none (take k stages)) (sym (add-one i)) ∙ list_all_more has_none stages i d (omega arith) in
    ap (λ b. b && empty_before chain (suc i)) one
    ∙ (ap (λ b. has_none (get_or stages i d) && b) rest
    ∙ (turned chain.recv_empty (list_all has_none (take i stages)) (has_none (get_or stages i d)) ∙ ap (λ b. chain.recv_empty && b) (sym more)))

whole_by : (chain : Chain) (stages : List Stage) (i : ℕ) → empty_before chain (suc i) ≡ (chain.recv_empty && list_all has_none (take i stages)) → chain.ended ≡ true → chain.recv_empty ≡ true → list_all has_none (take i stages) ≡ is_whole_at chain (i + 1)
whole_by chain stages i before ended recv =
    sym (ap (λ k. chain.ended && empty_before chain k) (add-one i)
    ∙ (ap (λ b. b && empty_before chain (suc i)) ended ∙ (before ∙ ap (λ b. b && list_all has_none (take i stages)) recv)))

pub whole_is : (chain : Chain) (stages : List Stage) (i : ℕ) → places_of stages ≡ chain.places → i ≤ length stages → chain.ended ≡ true → chain.recv_empty ≡ true → list_all has_none (take i stages) ≡ is_whole_at chain (i + 1)
whole_is chain [] zero seen within ended recv = whole_by chain [] 0 refl ended recv
whole_is chain [] (suc i) seen within ended recv = absurd (omega arith)
whole_is chain (s ∷ stages) i seen within ended recv = whole_by chain (s ∷ stages) i (empty_before_is chain (s ∷ stages) s i seen within) ended recv

-- a place releases no more than it has
none_or : (b : Bool) (m k : ℕ) → m ≤ k → (if b then m else 0) ≤ k
none_or true m k h = h
none_or false m k h = omega arith

let_go_within : (chain : Chain) (p : ℕ) (kind : StageKind) (x : Place) → let_go chain p kind x ≤ length x.octets
let_go_within chain p Hold x = none_or (is_whole_at chain p) (min chain.quantum (length x.octets)) (length x.octets) (omega arith)
let_go_within chain p (Meter rate) x = omega arith
let_go_within chain p Send x = omega arith

within_by : (chain : Chain) (p : ℕ) (o : Option Place) → option_map_or (λ place. let_go chain p place.kind place) o 0 ≤ length (option_map_or (λ place. place.octets) o [])
within_by chain p None = omega arith
within_by chain p (Some x) = let_go_within chain p x.kind x

pub may_release_within : (chain : Chain) (p : ℕ) → may_release chain p ≤ length (octets_at chain p)
may_release_within chain p = within_by chain p (place_at chain.places p)

-- one more stage that is no Hold, or that the whole body has come to
pub holds_step : (chain : Chain) (stages : List Stage) (i : ℕ) (d : Stage) → places_of stages ≡ chain.places → i < length stages
    → holds_filled chain (i + 1) (drop i chain.places) ≡ ((not (is_hold (get_or stages i d).kind) || is_whole_at chain (i + 1)) && holds_filled chain ((i + 1) + 1) (drop (i + 1) chain.places))
holds_step chain stages i d seen within =
    let len : length chain.places ≡ length stages = sym (ap length seen) ∙ length-map stages place_of in
    let at : get_or chain.places i (place_of d) ≡ place_of (get_or stages i d) =
    ap (λ ps. get_or ps i (place_of d)) (sym seen) ∙ get_or-map place_of stages i d in
    ap (holds_filled chain (i + 1)) (drop-cons chain.places i (place_of d) (omega arith))
    ∙ (ap (λ (x : Place). (not (is_hold x.kind) || is_whole_at chain (i + 1)) && holds_filled chain ((i + 1) + 1) (drop (suc i) chain.places)) at
    ∙ ap (λ k. (not (is_hold (get_or stages i d).kind) || is_whole_at chain (i + 1)) && holds_filled chain ((i + 1) + 1) (drop k chain.places)) (sym (add-one i)))
