-- What the reader of programs says of a whole list of tokens.
use Rattle.std.proofs.Common.{◌≡◌, ◌⊎◌, inl, inr, ℕ, ◌-◌, ◌<◌, List, [], ◌∷◌, refl, sym, ap, ◌∙◌, arith, length, length-append}
use Rattle.clc_reading.specs.Reading.{Reason, Wrong, Deep, Outcome, Got, Stops, and_then, ended, whole}
use Rattle.clc_reading.proofs.Verdict.{whole_fault, whole_got}
use Rattle.clc_lexer.specs.declared.token.Token.{Token}
use Rattle.clc_tree.specs.ProgramRules.{program}
use Rattle.clc_grammar_laws.proofs.ProgramsExact.{tree_lang, program_exact}
use Rattle.clc_tree.specs.declared.functions.Tree.{Tree}
use Rattle.clc_parser.specs.SourceTree.{IsText, FaultAt, IsFirstFault, fault_at}
use Rattle.clc_tree.specs.SourceText.{IsTreeOf}
use Rattle.clc_grammar_laws.proofs.FlatIs.{flat_tree}
use Rattle.clc_parser.specs.Reads.{StopsAt}
use Rattle.clc_parser.specs.declared.tokens.Stop.{Stop}
use Rattle.clc_parser.specs.declared.tokens.Stop.TheVariants as stop

pub top_tree : (n : ℕ) (ts : List Token) (tree : Tree) (left : List Token) → program n ts ≡ Got tree left → length left ≡ 0 → IsText n tree ts
top_tree n ts tree [] h z =
    let x = whole_got n (program n) tree_lang (program_exact n) (λ v. refl) ts tree [] (ap (λ o. and_then o ended) h) in
    (x.0, x.1, sym x.2, x.3)
top_tree n ts tree (t ∷ left) h z = absurd (omega arith)

whole_stops : (n : ℕ) (ts : List Token) (why : Reason) (left : List Token) → whole (program n) ts ≡ Stops why left → FaultAt n why (length ts - length left) ts
whole_stops n ts why left h =
    let x = whole_fault n (program n) tree_lang (program_exact n) (λ v. refl) ts why left h in
    let e = ap length x.1 ∙ length-append x.0 left in
    (x.0, left, x.1, omega arith, x.2)

-- tokens are left over
pub top_over : (n : ℕ) (ts : List Token) (tree : Tree) (left : List Token) → program n ts ≡ Got tree left → 0 < length left → FaultAt n Wrong (length ts - length left) ts
top_over n ts tree [] h z = absurd (omega arith)
top_over n ts tree (t ∷ left) h z = whole_stops n ts Wrong (t ∷ left) (ap (λ o. and_then o ended) h)

pub top_stops : (n : ℕ) (ts left : List Token) (e : Stop) → StopsAt (program n ts) e left → IsFirstFault n (fault_at e (length ts - length left)) ts
top_stops n ts left stop.Wrong h = whole_stops n ts Wrong left (ap (λ o. and_then o ended) h)
top_stops n ts left stop.Deep h = whole_stops n ts Deep left (ap (λ o. and_then o ended) h)
top_stops n ts left stop.Memory h = tt

pub some_answer : (n : ℕ) (ts : List Token) → ((tree : Tree) × IsText n tree ts) ⊎ ((why : Reason) × (k : ℕ) × FaultAt n why k ts)
some_answer n ts = by (program n ts) refl
  where
    by : (o : Outcome Token Tree) → program n ts ≡ o → ((tree : Tree) × IsText n tree ts) ⊎ ((why : Reason) × (k : ℕ) × FaultAt n why k ts)
    by (Got tree []) h = inl (tree, top_tree n ts tree [] h refl)
    by (Got tree (t ∷ left)) h = inr (Wrong, length ts - length (t ∷ left), top_over n ts tree (t ∷ left) h (omega arith))
    by (Stops why left) h = inr (why, length ts - length left, whole_stops n ts why left (ap (λ o. and_then o ended) h))

-- spelled with these tokens, a tree is the one whose tokens they are
pub tree_of : (n : ℕ) (ts : List Token) (tree : Tree) → IsText n tree ts → IsTreeOf tree ts
tree_of n ts tree x = ((x.0, x.1), sym (flat_tree tree x.0 x.1) ∙ x.2)
