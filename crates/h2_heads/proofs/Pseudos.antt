-- What the names of pseudo-fields tell.
use Rattle.std.proofs.Common.{Bool, List, ℕ, ◌≡◌, ◌∙◌, ◌||◌, None, Option, Some, ap, cond, false, not, refl, true}
use Rattle.std.proofs.lemmas.Slice.Eq.{bytes_eq-Decides}
use Rattle.std.specs.List.{list_any, starts_with}
use Rattle.std.specs.Prelude.{codes, nat_eq}
use Rattle.std.specs.Str.{bytes_eq}
use Rattle.h2_heads.specs.Pseudos.{name_of, pseudo_of}
use Rattle.h2_heads.specs.Rules.{has_inner_colon, is_bad_name, known}
use Rattle.h2_heads.specs.declared.malformed.Message.{Message}
use Rattle.h2_heads.specs.declared.malformed.Message.TheVariants.{Connect, Request, Response, Trailers}
use Rattle.h2_heads.specs.declared.pseudo.Pseudo.{Pseudo}
use Rattle.h2_heads.specs.declared.pseudo.Pseudo.TheVariants.{Authority, Method, Path, Scheme, Status}

chosen : (name : List ℕ) (here pseudo : Pseudo) (rest : Option Pseudo) → (rest ≡ Some pseudo → name ≡ name_of pseudo) → cond (bytes_eq name (name_of here)) (Some here) rest ≡ Some pseudo → name ≡ name_of pseudo
chosen name here pseudo rest behind found =
    let step : (b : Bool) → bytes_eq name (name_of here) ≡ b → cond b (Some here) rest ≡ Some pseudo → name ≡ name_of pseudo =
    λ b. elim b as (λ v. bytes_eq name (name_of here) ≡ v → cond v (Some here) rest ≡ Some pseudo → name ≡ name_of pseudo) [
      | true ↦ λ same chose. let at : here ≡ pseudo = cc in (bytes_eq-Decides name (name_of here)).0 same ∙ ap name_of at
      | false ↦ λ differs chose. behind chose
    ] in
    step (bytes_eq name (name_of here)) refl found

abbrev of_status : List ℕ → Option Pseudo
of_status name = cond (bytes_eq name (codes ":status")) (Some Status) None

abbrev of_path : List ℕ → Option Pseudo
of_path name = cond (bytes_eq name (codes ":path")) (Some Path) (of_status name)

abbrev of_authority : List ℕ → Option Pseudo
of_authority name = cond (bytes_eq name (codes ":authority")) (Some Authority) (of_path name)

abbrev of_scheme : List ℕ → Option Pseudo
of_scheme name = cond (bytes_eq name (codes ":scheme")) (Some Scheme) (of_authority name)

-- a name that is told to be a pseudo-field's is its name
pub named_by : (name : List ℕ) (pseudo : Pseudo) → pseudo_of name ≡ Some pseudo → name ≡ name_of pseudo
named_by name pseudo found =
    chosen name Method pseudo (of_scheme name) (chosen name Scheme pseudo (of_authority name) (chosen name Authority pseudo (of_path name) (chosen name Path pseudo (of_status name) (chosen name Status pseudo None (λ none. cc))))) found

passed : (b : Bool) (here : Pseudo) (rest : Option Pseudo) → cond b (Some here) rest ≡ None → b ≡ false
passed true here rest e = cc
passed false here rest e = refl

behind : (b : Bool) (here : Pseudo) (rest : Option Pseudo) → cond b (Some here) rest ≡ None → rest ≡ None
behind true here rest e = cc
behind false here rest e = e

none_known : (message : Message) (name : List ℕ) → bytes_eq name (codes ":method") ≡ false → bytes_eq name (codes ":scheme") ≡ false → bytes_eq name (codes ":authority") ≡ false → bytes_eq name (codes ":path") ≡ false → bytes_eq name (codes ":status") ≡ false → list_any (bytes_eq name) (known message) ≡ false
none_known Request name m s a p t = λ k. m k || (s k || (a k || (p k || false)))
none_known Connect name m s a p t = λ k. m k || (a k || false)
none_known Response name m s a p t = λ k. t k || false
none_known Trailers name m s a p t = refl

-- a name that is told to be no pseudo-field's is known to no message
pub unknown_to : (message : Message) (name : List ℕ) → pseudo_of name ≡ None → list_any (bytes_eq name) (known message) ≡ false
unknown_to message name none =
    let scheme = behind (bytes_eq name (codes ":method")) Method (of_scheme name) none in
    let authority = behind (bytes_eq name (codes ":scheme")) Scheme (of_authority name) scheme in
    let path = behind (bytes_eq name (codes ":authority")) Authority (of_path name) authority in
    let status = behind (bytes_eq name (codes ":path")) Path (of_status name) path in
    none_known message name
    (passed (bytes_eq name (codes ":method")) Method (of_scheme name) none)
    (passed (bytes_eq name (codes ":scheme")) Scheme (of_authority name) scheme)
    (passed (bytes_eq name (codes ":authority")) Authority (of_path name) authority)
    (passed (bytes_eq name (codes ":path")) Path (of_status name) path)
    (passed (bytes_eq name (codes ":status")) Status None status)

sound_text : (pseudo : Pseudo) → not (is_bad_name (name_of pseudo) || has_inner_colon (name_of pseudo)) ≡ true
sound_text Method = refl
sound_text Scheme = refl
sound_text Authority = refl
sound_text Path = refl
sound_text Status = refl

-- a pseudo-field's name is sound
pub sound_pseudo : (name : List ℕ) (pseudo : Pseudo) → name ≡ name_of pseudo → not (is_bad_name name || has_inner_colon name) ≡ true
sound_pseudo name pseudo same = ap (λ text. not (is_bad_name text || has_inner_colon text)) same ∙ sound_text pseudo

pub colon_text : (pseudo : Pseudo) → starts_with nat_eq (name_of pseudo) (codes ":") ≡ true
colon_text Method = refl
colon_text Scheme = refl
colon_text Authority = refl
colon_text Path = refl
colon_text Status = refl

-- and begins with a colon
pub colon_first : (name : List ℕ) (pseudo : Pseudo) → name ≡ name_of pseudo → starts_with nat_eq name (codes ":") ≡ true
colon_first name pseudo same = ap (λ text. starts_with nat_eq text (codes ":")) same ∙ colon_text pseudo
