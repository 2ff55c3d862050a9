-- What the typing rules give to a proper program is well typed.
use Rattle.std.proofs.Common.{◌≡◌, ℕ, suc, ◌+◌, true, List, [], ◌∷◌, ◌++◌, refl, sym, ap, ◌∙◌}
use Rattle.clc_reading.specs.Reading.{Spelling}
use Rattle.clc_lexer.specs.declared.token.Token.{Token}
use Rattle.clc_tree.specs.Programs as g
use Rattle.clc_tree.specs.SourceText.{IsProper}
use Rattle.clc_tree.specs.declared.functions.Function.{Function}
use Rattle.clc_tree.specs.declared.functions.Tree.{Tree}
use Rattle.clc_types.specs.declared.typed.TFunction.{TFunction}
use Rattle.clc_types.specs.Judged.{Fine, both}
use Rattle.clc_types.specs.Words.{name_of}
use Rattle.clc_types.specs.Programs.{function_piece, signature, Before, height_in, function_at, with_function, functions_at, no_function, program}
use Rattle.clc_types.specs.WellTyped.{functions_fit, is_well_typed}
use Rattle.clc_well_typed.proofs.Judging.{fine_is, next_parts, both_parts, yes}
use Rattle.clc_well_typed.proofs.Places.{length_last}
use Rattle.clc_well_typed.proofs.Functions.{Known, Valid, alike_last, function_valid}

known_more : (b : Before) (p : ℕ) (f : Function) (done : List TFunction) (y : TFunction) → Known b done → Valid done (signature f) y → Known (with_function b p f) (done ++ y ∷ [])
known_more b p f done y h v = record {
  names = length_last b.names (name_of f.name) ∙ ap suc h.names ∙ sym (length_last b.signatures (signature f));
  heights = length_last b.heights (height_in b.heights (function_at b p f)) ∙ ap suc h.heights ∙ sym (length_last b.signatures (signature f));
  alike = alike_last b.signatures done (signature f) y h.alike v.alike;
}

functions_valid : (fs : List Function) (ms : Spelling Token) → g.AreFunctions fs ms → (b : Before) (p : ℕ) (done ys : List TFunction) → Known b done → functions_at b p fs ≡ Fine ys → functions_fit done ys ≡ true
functions_valid fs ms g.no_function b p done ys kn h = ap (functions_fit done) (sym (fine_is [] ys h))
functions_valid fs ms (g.one_function f more m n i j) b p done ys kn h =
    let q = p + (function_piece b.names f).tokens in
    let d = next_parts (both (function_at b p f) (functions_at (with_function b p f) q more)) (λ y. Fine (y.0 ∷ y.1)) ys h in
    let e = both_parts (function_at b p f) (functions_at (with_function b p f) q more) d.0 d.1 in
    let v = function_valid b done p f m kn i d.0.0 e.0 in
    ap (functions_fit done) (sym (fine_is (d.0.0 ∷ d.0.1) ys d.2))
    ∙ yes v.fits (functions_valid more n j (with_function b p f) q (done ++ d.0.0 ∷ []) d.0.1 (known_more b p f done d.0.0 kn v) e.1)

tree_valid : (tree : Tree) (ms : Spelling Token) → g.IsTree tree ms → (functions : List TFunction) → program tree ≡ Fine functions → is_well_typed functions ≡ true
tree_valid tree ms (g.tree all m i) functions h = functions_valid all m i no_function 0 [] functions (record { names = refl; heights = refl; alike = tt }) h

pub well_typed : (tree : Tree) (functions : List TFunction) → IsProper tree → program tree ≡ Fine functions → is_well_typed functions ≡ true
well_typed tree functions p h = tree_valid tree p.0 p.1 functions h
