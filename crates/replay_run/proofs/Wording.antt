-- The words of a replay.
use Rattle.replay_run.specs.Forms.{IsDrillWord, IsNoDrill, SpellsForm}
use Rattle.replay_run.specs.ReplayDrill.{DrillsAs}
use Rattle.replay_run.specs.Replays.{Replays}
use Rattle.replay_run.specs.ReplayForm.{ReplaysForm}
use Rattle.replay_run.specs.declared.form.Form.{Form}
use Rattle.session_run.specs.declared.status.Status.{Status}
use Rattle.std.proofs.Common.{Decides, ap, arith, inl, inr, refl, subst, sym, ◌∙◌}
use Rattle.std.proofs.lemmas.Fmt.{decimal_injective, parse-decimal}
use Rattle.std.proofs.lemmas.Slice.Eq.{bytes_eq-Decides}
use Rattle.std.specs.Fmt.{decimal}
use Rattle.std.specs.Prelude.{Bool, List, Ok, Option, Result, [], codes, false, get_or, true, ℕ, ◌<◌, ◌^◌, ◌∷◌, ◌≡◌, ◌≤◌, ◌⊎◌}
use Rattle.std.specs.Str.{bytes_eq}
use Rattle.std.specs.Str.Parse.{ParsesUnsigned}
use Rattle.replay_run.specs.declared.form.Form.TheVariants as form

found : (b : Bool) (P : Type 0) → Decides b P → P → b ≡ true
found b P d p = d.1 p

-- ---- one word

-- ---- two words

-- ---- other numbers of words

-- ---- the word of a number

fits : (m : ℕ) → m ≤ 1000 → (m < 2 ^ 32) × (m < 2 ^ 64)
fits m le = (omega (arith, le), omega (arith, le))

parsed_as : {E : Type 0} (word : List ℕ) (m : ℕ) (r : Result ℕ E) → ParsesUnsigned 32 10 word r → IsDrillWord word m → r ≡ Ok m
parsed_as word m r p k = let f = fits m k.most in parse-decimal 32 m word r f.0 f.1 k.is p

pub number_no : {E : Type 0} (word : List ℕ) (r : Result ℕ E) → ((n : ℕ) → r ≡ Ok n → ⊥) → ParsesUnsigned 32 10 word r → IsNoDrill word
number_no word r other p = record { none = λ m k. other m (parsed_as word m r p k) }

-- one of the tests failed
pub number_else : {E : Type 0} (word digits : List ℕ) (n : ℕ) (r : Result ℕ E) (b : Bool) → r ≡ Ok n → ParsesUnsigned 32 10 word r → digits ≡ decimal n → b ≡ bytes_eq digits word
    → ((b ≡ true) × (1 ≤ n) × (1000 < n)) ⊎ ((b ≡ true) × (n < 1)) ⊎ (b ≡ false) → IsNoDrill word
number_else word digits n r b e p ed eb failed = record { none = by failed }
  where
    same_number : (m : ℕ) → IsDrillWord word m → n ≡ m
    same_number m k = let i : Ok n ≡ Ok m = sym e ∙ parsed_as word m r p k in cc

    spelled : (m : ℕ) → IsDrillWord word m → b ≡ true
    spelled m k = eb ∙ found (bytes_eq digits word) (digits ≡ word) (bytes_eq-Decides digits word) (ed ∙ ap decimal (same_number m k) ∙ sym k.is)

    by : ((b ≡ true) × (1 ≤ n) × (1000 < n)) ⊎ ((b ≡ true) × (n < 1)) ⊎ (b ≡ false) → (m : ℕ) → IsDrillWord word m → ⊥
    by (inl many) m k = let i = same_number m k in let more = many.2 in let most = k.most in omega (arith, i, more, most)
    by (inr (inl few)) m k = let i = same_number m k in let less = few.1 in let least = k.least in omega (arith, i, less, least)
    by (inr (inr f)) m k = let t = spelled m k in cc

-- told apart by their first octets
abbrev first_octet : List (List ℕ) → ℕ
first_octet words = get_or (get_or words 0 []) 0 0

relay_or_drill : (name number : List ℕ) → codes "relay" ∷ name ∷ [] ≡ codes "drill" ∷ number ∷ [] → ⊥
relay_or_drill name number e = let k : 114 ≡ 100 = ap first_octet e in omega (arith, k)

wire_or_drill : (name number : List ℕ) → codes "wire" ∷ name ∷ [] ≡ codes "drill" ∷ number ∷ [] → ⊥
wire_or_drill name number e = let k : 119 ≡ 100 = ap first_octet e in omega (arith, k)

wire_or_relay : (name other : List ℕ) → codes "wire" ∷ name ∷ [] ≡ codes "relay" ∷ other ∷ [] → ⊥
wire_or_relay name other e = let k : 119 ≡ 114 = ap first_octet e in omega (arith, k)

shed_or_drill : (name number : List ℕ) → codes "shed" ∷ name ∷ [] ≡ codes "drill" ∷ number ∷ [] → ⊥
shed_or_drill name number e = let k : 115 ≡ 100 = ap first_octet e in omega (arith, k)

shed_or_relay : (name other : List ℕ) → codes "shed" ∷ name ∷ [] ≡ codes "relay" ∷ other ∷ [] → ⊥
shed_or_relay name other e = let k : 115 ≡ 114 = ap first_octet e in omega (arith, k)

wire_or_shed : (name other : List ℕ) → codes "wire" ∷ name ∷ [] ≡ codes "shed" ∷ other ∷ [] → ⊥
wire_or_shed name other e = let k : 119 ≡ 115 = ap first_octet e in omega (arith, k)

-- two numbers have the same form
pub same_form : (words : List (List ℕ)) (f g : Form) → SpellsForm words f → SpellsForm words g → f ≡ g
same_form words form.Plain form.Plain s t = refl
same_form words form.Plain form.Relay s t = let i : codes "plain" ∷ [] ≡ codes "relay" ∷ t.is.0 ∷ [] = sym s.is ∙ t.is.1 in cc
same_form words form.Relay form.Plain s t = let i : codes "plain" ∷ [] ≡ codes "relay" ∷ s.is.0 ∷ [] = sym t.is ∙ s.is.1 in cc
same_form words form.Relay form.Relay s t = refl
same_form words form.Wire form.Wire s t = refl
same_form words form.Plain form.Wire s t = let i : codes "plain" ∷ [] ≡ codes "wire" ∷ t.is.0 ∷ [] = sym s.is ∙ t.is.1 in cc
same_form words form.Wire form.Plain s t = let i : codes "plain" ∷ [] ≡ codes "wire" ∷ s.is.0 ∷ [] = sym t.is ∙ s.is.1 in cc
same_form words form.Relay form.Wire s t = absurd (wire_or_relay t.is.0 s.is.0 (sym t.is.1 ∙ s.is.1))
same_form words form.Wire form.Relay s t = absurd (wire_or_relay s.is.0 t.is.0 (sym s.is.1 ∙ t.is.1))
same_form words form.Shed form.Shed s t = refl
same_form words form.Plain form.Shed s t = let i : codes "plain" ∷ [] ≡ codes "shed" ∷ t.is.0 ∷ [] = sym s.is ∙ t.is.1 in cc
same_form words form.Shed form.Plain s t = let i : codes "plain" ∷ [] ≡ codes "shed" ∷ s.is.0 ∷ [] = sym t.is ∙ s.is.1 in cc
same_form words form.Wire form.Shed s t = absurd (wire_or_shed s.is.0 t.is.0 (sym s.is.1 ∙ t.is.1))
same_form words form.Shed form.Wire s t = absurd (wire_or_shed t.is.0 s.is.0 (sym t.is.1 ∙ s.is.1))
same_form words form.Shed form.Relay s t = absurd (shed_or_relay s.is.0 t.is.0 (sym s.is.1 ∙ t.is.1))
same_form words form.Relay form.Shed s t = absurd (shed_or_relay t.is.0 s.is.0 (sym t.is.1 ∙ s.is.1))
same_form words form.Shed (form.Drill n) s t = absurd (shed_or_drill s.is.0 (decimal n) (sym s.is.1 ∙ t.is))
same_form words (form.Drill n) form.Shed s t = absurd (shed_or_drill t.is.0 (decimal n) (sym t.is.1 ∙ s.is))
same_form words form.Wire (form.Drill n) s t = absurd (wire_or_drill s.is.0 (decimal n) (sym s.is.1 ∙ t.is))
same_form words (form.Drill n) form.Wire s t = absurd (wire_or_drill t.is.0 (decimal n) (sym t.is.1 ∙ s.is))
same_form words form.Relay (form.Drill n) s t = absurd (relay_or_drill s.is.0 (decimal n) (sym s.is.1 ∙ t.is))
same_form words (form.Drill n) form.Relay s t = absurd (relay_or_drill t.is.0 (decimal n) (sym t.is.1 ∙ s.is))
same_form words form.Plain (form.Drill n) s t = let i : codes "plain" ∷ [] ≡ codes "drill" ∷ decimal n ∷ [] = sym s.is ∙ t.is in cc
same_form words (form.Drill n) form.Plain s t = let i : codes "plain" ∷ [] ≡ codes "drill" ∷ decimal n ∷ [] = sym t.is ∙ s.is in cc
same_form words (form.Drill m) (form.Drill n) s t =
    let i : codes "drill" ∷ decimal m ∷ [] ≡ codes "drill" ∷ decimal n ∷ [] = sym s.is ∙ t.is in
    let k : decimal m ≡ decimal n = cc in
    ap form.Drill (decimal_injective m n (fits m s.ranges.1).1 (fits n t.ranges.1).1 k)

pub form_given : (words : List (List ℕ)) (f g : Form) → f ≡ g → SpellsForm words f → SpellsForm words g
form_given words f g e s = let P : Form → Type 0 = λ v. SpellsForm words v in subst P e s

-- ---- what was asked for was done

pub drill_told : (words : List (List ℕ)) (n : ℕ) (left out_old out_new : Option (List ℕ)) (how : Status) → SpellsForm words (form.Drill n) → DrillsAs n out_old out_new how
    → (f : Form) → SpellsForm words f → ReplaysForm f left left out_old out_new how
drill_told words n left out_old out_new how k d f s =
    let P : Form → Type 0 = λ v. ReplaysForm v left left out_old out_new how in subst P (same_form words (form.Drill n) f k s) (refl, d)

pub plain_told : (words : List (List ℕ)) (left_old left_new out_old out_new : Option (List ℕ)) (how : Status) → SpellsForm words form.Plain → Replays left_old left_new out_old out_new how
    → (f : Form) → SpellsForm words f → ReplaysForm f left_old left_new out_old out_new how
plain_told words left_old left_new out_old out_new how k r f s =
    let P : Form → Type 0 = λ v. ReplaysForm v left_old left_new out_old out_new how in subst P (same_form words form.Plain f k s) r

pub relay_told : (words : List (List ℕ)) (left_old left_new out_old out_new : Option (List ℕ)) (how : Status) → SpellsForm words form.Relay → (f : Form) → SpellsForm words f → ReplaysForm f left_old left_new out_old out_new how
relay_told words left_old left_new out_old out_new how k f s =
    let P : Form → Type 0 = λ v. ReplaysForm v left_old left_new out_old out_new how in subst P (same_form words form.Relay f k s) tt

pub wire_told : (words : List (List ℕ)) (left_old left_new out_old out_new : Option (List ℕ)) (how : Status) → SpellsForm words form.Wire → (f : Form) → SpellsForm words f → ReplaysForm f left_old left_new out_old out_new how
wire_told words left_old left_new out_old out_new how k f s =
    let P : Form → Type 0 = λ v. ReplaysForm v left_old left_new out_old out_new how in subst P (same_form words form.Wire f k s) tt

pub shed_told : (words : List (List ℕ)) (left_old left_new out_old out_new : Option (List ℕ)) (how : Status) → SpellsForm words form.Shed → (f : Form) → SpellsForm words f → ReplaysForm f left_old left_new out_old out_new how
shed_told words left_old left_new out_old out_new how k f s =
    let P : Form → Type 0 = λ v. ReplaysForm v left_old left_new out_old out_new how in subst P (same_form words form.Shed f k s) tt

-- ---- words have one form
pub plain_no_shed : form.Plain ≡ form.Shed → ⊥
plain_no_shed e = cc

pub drill_no_shed : (n : ℕ) → form.Drill n ≡ form.Shed → ⊥
drill_no_shed n e = cc

pub wire_no_shed : form.Wire ≡ form.Shed → ⊥
wire_no_shed e = cc

pub relay_no_shed : form.Relay ≡ form.Shed → ⊥
relay_no_shed e = cc

pub shed_no_plain : form.Shed ≡ form.Plain → ⊥
shed_no_plain e = cc

pub shed_no_wire : form.Shed ≡ form.Wire → ⊥
shed_no_wire e = cc

pub shed_no_relay : form.Shed ≡ form.Relay → ⊥
shed_no_relay e = cc

pub plain_no_wire : form.Plain ≡ form.Wire → ⊥
plain_no_wire e = cc

pub drill_no_wire : (n : ℕ) → form.Drill n ≡ form.Wire → ⊥
drill_no_wire n e = cc

pub wire_no_plain : form.Wire ≡ form.Plain → ⊥
wire_no_plain e = cc

pub wire_no_relay : form.Wire ≡ form.Relay → ⊥
wire_no_relay e = cc

pub relay_no_wire : form.Relay ≡ form.Wire → ⊥
relay_no_wire e = cc

pub plain_no_relay : form.Plain ≡ form.Relay → ⊥
plain_no_relay e = cc

pub drill_no_relay : (n : ℕ) → form.Drill n ≡ form.Relay → ⊥
drill_no_relay n e = cc

pub relay_no_plain : form.Relay ≡ form.Plain → ⊥
relay_no_plain e = cc

pub other_words : (words : List (List ℕ)) (f g : Form) (P : Type 0) → (f ≡ g → ⊥) → SpellsForm words f → SpellsForm words g → P
other_words words f g P other s t = absurd (other (same_form words f g s t))

-- one of two sources failed
pub other_source : (A B C : Type 0) → C → A ⊎ B → B ⊎ (C × A)
other_source A B C c (inl a) = inr (c, a)
other_source A B C c (inr b) = inl b
