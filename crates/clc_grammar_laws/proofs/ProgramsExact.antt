-- Functions and programs are read exactly, so a text has one tree.
use Rattle.std.proofs.Common.{◌≡◌, ◌⊎◌, inl, inr, ℕ, zero, suc, ◌+◌, ◌<◌, ◌≤◌, true, false, List, [], ◌∷◌, ◌++◌, Option, Some, None, refl, sym, ap, ◌∙◌, subst, arith, append_assoc, append-nil}
use Rattle.clc_reading.specs.Reading.{sees, Spelling, tokens_of, deeper, below, AllBelow, Language}
use Rattle.clc_reading.proofs.Exact.{Exact, seq, branch, loop, as_lang, pure_exact, pure_lang, then_lang, pick_lang, many_lang, deny_exact, AllSpelled, LoopLaws, loop_laws}
use Rattle.clc_reading.proofs.Verdict.{one_value}
use Rattle.clc_lexer.specs.declared.token.Token.{Token}
use Rattle.clc_lexer.specs.declared.marks.Mark.TheVariants as m
use Rattle.clc_lexer.specs.declared.words.Word.TheVariants as w
use Rattle.clc_tree.specs.Kinds.{takes, is}
use Rattle.clc_tree.specs.declared.kinds.Kind.TheVariants as k
use Rattle.clc_tree.specs.Expressions.{plain, alone}
use Rattle.clc_tree.specs.Statements as s
use Rattle.clc_tree.specs.StatementRules as t
use Rattle.clc_tree.specs.Programs as g
use Rattle.clc_tree.specs.ProgramRules as r
use Rattle.clc_grammar_laws.proofs.Facts.{of, apart, within, within_of}
use Rattle.clc_grammar_laws.proofs.Readers.{a_name, a_mark, a_word, as_is, join0, last, sees_head, head, at_end, tok_lang, kind_exact, inner_lang, inner_exact, final_lang, final_exact, StartsWith, starts_append, starts_is, starts_sees, starts_by, never_empty, avoids, avoids_more}
use Rattle.clc_grammar_laws.proofs.Languages.{scalar_lang}
use Rattle.clc_grammar_laws.proofs.ExpressionsExact.{scalar_exact, scalar_starts}
use Rattle.clc_grammar_laws.proofs.DeclarationsExact.{optional_lang, optional_exact, from_space, EndsPointer, pointer_lang, pointer_exact, pointer_starts, pointer_join}
use Rattle.clc_grammar_laws.proofs.StatementsExact.{block_lang, block_exact, optional_starts}
use Rattle.clc_grammar_laws.proofs.StatementLevels.{levels_exact, or, either}
use Rattle.clc_tree.specs.declared.expressions.Scalar.TheVariants.{Plain, Signed}
use Rattle.clc_tree.specs.declared.functions.Param.{Param}
use Rattle.clc_tree.specs.declared.functions.Param.TheVariants as param
use Rattle.clc_tree.specs.declared.functions.ParamStep.{ParamStep}
use Rattle.clc_tree.specs.declared.functions.Params.{Params}
use Rattle.clc_tree.specs.declared.functions.Params.TheVariants as params
use Rattle.clc_tree.specs.declared.functions.Returns.{Returns}
use Rattle.clc_tree.specs.declared.functions.Returns.TheVariants as returns
use Rattle.clc_tree.specs.declared.functions.Function.{Function}
use Rattle.clc_tree.specs.declared.functions.Tree.{Tree}

-- ---- parameters

abbrev param_lang : Language Token Param
param_lang = record { spells = g.IsParam; halts = λ v rest. Unit {0} }

abbrev param_rest : Option Token → Language Token Param
param_rest c = pick_lang (is k.Space) (then_lang (pointer_lang c) (λ p. tok_lang (is k.Name) (λ i. pure_lang (param.Pointer p i))))
    (then_lang scalar_lang (λ x. tok_lang (is k.Name) (λ i. pure_lang (param.Value c x i))))

abbrev param_raw : Language Token Param
param_raw = then_lang (optional_lang k.Const) (λ c. param_rest c)

param_to : (v : Param) (ms : Spelling Token) → param_raw.spells v ms → g.IsParam v ms
param_to v ms (c, mc, o0, hc, inl (p, mp, o1, hp, (i, o2, hi, (hv, h2), e2), e1), e0) =
    as_is g.IsParam hv (e0 ∙ ap (λ z. mc ++ z) (e1 ∙ ap (λ z. mp ++ z) (join0 e2 h2)) ∙ sym (append_assoc mc mp _)) (g.pointer p i (mc ++ mp) (pointer_join c mc hc p mp hp) hi)
param_to v ms (c, mc, o0, hc, inr ((x, mx, o1, hx, (i, o2, hi, (hv, h2), e2), e1), b), e0) =
    as_is g.IsParam hv (e0 ∙ ap (λ z. mc ++ z) (e1 ∙ ap (λ z. mx ++ z) (join0 e2 h2))) (g.value c x i mc mx hc hx hi)

param_from : (v : Param) (ms : Spelling Token) → g.IsParam v ms → param_raw.spells v ms
param_from v ms (g.value c x i mc mx hc hx hi) =
    (c, mc, _, hc, inr ((x, mx, _, hx, (i, [], hi, (refl, refl), refl), refl), avoids k.ScalarWord k.Space refl _ (starts_append (is k.ScalarWord) mx _ (scalar_starts x mx hx))), refl)
param_from v ms (g.pointer p i mp (s.pointer c u d e y o j mc n q w1 w2 hc hu hd he hy ho hj) hi) =
    (c, mc, _, hc, inl (_, _, _, from_space c u d e y o j n q w1 w2 hu hd he hy ho hj, (i, [], hi, (refl, refl), refl), refl), append_assoc mc _ _)

param_rest_avoids : (c : Option Token) (v : Param) (ms : Spelling Token) (rest : List Token) → (param_rest c).spells v ms → sees (is k.Const) (tokens_of ms ++ rest) ≡ false
param_rest_avoids c v ms rest (inl q) = avoids_more k.Space k.Const refl q.1 q.2 q.5 (pointer_starts c q.0 q.1 q.3) rest
param_rest_avoids c v ms rest (inr (q, b)) = avoids_more k.ScalarWord k.Const refl q.1 q.2 q.5 (scalar_starts q.0 q.1 q.3) rest

param_exact : (n : ℕ) → Exact n (r.parameter n) param_lang
unfolding r.parameter
param_exact n =
    as_lang param_lang
    (seq (optional_exact n k.Const (a_word w.Const) refl) (λ c.
    branch (is k.Space)
    (seq (pointer_exact n c) (λ p. kind_exact k.Name a_name refl (λ i. pure_exact n (param.Pointer p i)))
    (λ p v o rest q h. head EndsPointer q.0 rest q.4 (λ z. (apart k.Name k.Const refl q.0 q.2, apart k.Name k.Restrict refl q.0 q.2))))
    (seq (scalar_exact n) (λ x. kind_exact k.Name a_name refl (λ i. pure_exact n (param.Value c x i)))
    (λ x v o rest q h. head (λ z. sees (is k.BaseWord) z ≡ false) q.0 rest q.4 (λ z. apart k.Name k.BaseWord refl q.0 q.2)))
    (λ v ms rest q. starts_sees (is k.Space) ms rest (starts_is (is k.Space) q.5 (starts_append (is k.Space) _ q.2 (pointer_starts c q.0 q.1 q.3))))
    (λ v rest q h. never_empty (is k.ScalarWord) (starts_is (is k.ScalarWord) q.5 (starts_append (is k.ScalarWord) _ q.2 (scalar_starts q.0 q.1 q.3))) refl))
    (λ c v o rest q h. param_rest_avoids c v o rest q))
    param_to param_from (λ v rest h. λ c. (λ p i. tt, λ x i. tt))

param_starts : (v : Param) (ms : Spelling Token) → g.IsParam v ms → StartsWith (is k.DeclareStart) ms
param_starts v ms (g.value c x i mc mx hc hx hi) =
    optional_starts k.Const k.DeclareStart refl c mc _ hc
    (starts_append (is k.DeclareStart) mx _ (starts_by (is k.ScalarWord) (is k.DeclareStart) (within k.ScalarWord k.DeclareStart refl) mx (scalar_starts x mx hx)))
param_starts v ms (g.pointer p i mp (s.pointer c u d e y o j mc n q w1 w2 hc hu hd he hy ho hj) hi) =
    starts_append (is k.DeclareStart) _ _ (optional_starts k.Const k.DeclareStart refl c mc _ hc ((u, 0), _, refl, within k.Space k.DeclareStart refl u hu))

abbrev param_step_raw : Language Token ParamStep
param_step_raw = tok_lang (is k.Comma) (λ i. then_lang param_lang (λ p. pure_lang (g.param_step i p)))

abbrev params_after_lang : Language Token (List ParamStep)
params_after_lang = record { spells = g.AreParams; halts = λ v rest. sees (is k.Comma) rest ≡ false }

params_after_to : (v : List ParamStep) (ms : Spelling Token) → AllSpelled param_step_raw v ms → g.AreParams v ms
params_after_to [] ms q = subst (g.AreParams []) (sym q) g.no_param
params_after_to (y ∷ more) ms (m1, m2, (i, o, h, (p, m3, o3, hp, (hv, h3), e3), e1), rest, e0) =
    as_is g.AreParams (ap (λ z. z ∷ more) hv) (e0 ∙ ap (λ z. z ++ m2) (join0 e1 (last e3 refl h3))) (g.one_param i p more m3 m2 h hp (params_after_to more m2 rest))

params_after_from : (v : List ParamStep) (ms : Spelling Token) → g.AreParams v ms → AllSpelled param_step_raw v ms
params_after_from v ms g.no_param = refl
params_after_from v ms (g.one_param i p more m1 m2 h hp rest) = ((i, 0) ∷ m1, m2, (i, m1, h, (p, m1, [], hp, (refl, refl), sym (append-nil m1)), refl), params_after_from more m2 rest, refl)

param_step_exact : (n : ℕ) → Exact n (r.parameter_after n) param_step_raw
unfolding r.parameter_after
param_step_exact n = kind_exact k.Comma (a_mark m.Comma) refl (λ i. seq (param_exact n) (λ p. pure_exact n (g.param_step i p)) (λ p v o rest q h. tt))

params_after_exact : (n : ℕ) → Exact n (r.parameters_after n) params_after_lang
params_after_exact n =
    as_lang params_after_lang
    (loop (is k.Comma) (param_step_exact n) (λ v ms q. ((q.0, 0), q.1, q.4, q.2)) (λ v y ys h. λ i p. tt))
    params_after_to params_after_from (λ v rest h. (h, λ a i p. tt))

pub params_loop : (n : ℕ) → LoopLaws (is k.Comma) (r.parameter_after n)
params_loop n = loop_laws (is k.Comma) (param_step_exact n) (λ v ms q. ((q.0, 0), q.1, q.4, q.2)) (λ v y ys h. λ i p. tt)

abbrev EndsParams : List Token → Type 0
EndsParams rest = (sees (is k.Comma) rest ≡ false) × (sees (is k.Void) rest ≡ false) × (sees (is k.DeclareStart) rest ≡ false)

abbrev params_lang : Language Token (Option Params)
params_lang = record { spells = g.IsParams; halts = λ v rest. EndsParams rest }

abbrev void_params : Language Token (Option Params)
void_params = tok_lang (is k.Void) (λ i. pure_lang (Some (params.Void i)))

abbrev list_params : Language Token (Option Params)
list_params = then_lang param_lang (λ p. then_lang params_after_lang (λ more. final_lang EndsParams (Some (params.List p more))))

abbrev params_raw : Language Token (Option Params)
params_raw = pick_lang (is k.Void) void_params (pick_lang (is k.DeclareStart) list_params (final_lang EndsParams None))

params_to : (v : Option Params) (ms : Spelling Token) → params_raw.spells v ms → g.IsParams v ms
params_to v ms (inl (i, o, h, (hv, h1), e0)) = as_is g.IsParams hv (join0 e0 h1) (g.void i h)
params_to v ms (inr (inl (p, m1, o1, hp, (more, m2, o2, hm, (hv, h2), e2), e1), b)) = as_is g.IsParams hv (e1 ∙ ap (λ z. m1 ++ z) (last e2 refl h2)) (g.list p more m1 m2 hp hm)
params_to v ms (inr (inr ((hv, h1), b), d)) = as_is g.IsParams hv h1 g.none

params_from : (v : Option Params) (ms : Spelling Token) → g.IsParams v ms → params_raw.spells v ms
params_from v ms g.none = inr (inr ((refl, refl), refl), refl)
params_from v ms (g.void i h) = inl (i, [], h, (refl, refl), refl)
params_from v ms (g.list p more m1 m2 hp hm) =
    inr (inl (p, m1, m2, hp, (more, m2, [], hm, (refl, refl), sym (append-nil m2)), refl), avoids k.DeclareStart k.Void refl _ (starts_append (is k.DeclareStart) m1 m2 (param_starts p m1 hp)))

params_none : (v : Option Params) (rest : List Token) → (pick_lang (is k.DeclareStart) list_params (final_lang EndsParams None)).spells v []
    → (pick_lang (is k.DeclareStart) list_params (final_lang EndsParams None)).halts v rest → sees (is k.Void) rest ≡ false
params_none v rest q h = h.1.1

params_exact : (n : ℕ) → Exact n (r.parameters n) params_lang
unfolding r.parameters
params_exact n =
    as_lang params_lang
    (branch (is k.Void) (kind_exact k.Void (a_word w.Void) refl (λ i. pure_exact n (Some (params.Void i))))
    (branch (is k.DeclareStart)
    (seq (param_exact n) (λ p. seq (params_after_exact n) (λ more. final_exact n EndsParams (Some (params.List p more))) (λ more v o rest q h. at_end (λ z. sees (is k.Comma) z ≡ false) rest q.1 h.0)) (λ p v o rest q h. tt))
    (final_exact n EndsParams None)
    (λ v ms rest q. starts_sees (is k.DeclareStart) ms rest (starts_is (is k.DeclareStart) q.5 (starts_append (is k.DeclareStart) _ q.2 (param_starts q.0 q.1 q.3))))
    (λ v rest q h. h.2))
    (λ v ms rest q. sees_head (is k.Void) rest q.4 q.2) params_none)
    params_to params_from (λ v rest h. (λ i. tt, (λ p more. h, h)))

-- ---- results

abbrev result_lang : Language Token Returns
result_lang = record { spells = g.IsReturns; halts = λ v rest. sees (is k.BaseWord) rest ≡ false }

abbrev result_raw : Language Token Returns
result_raw = pick_lang (is k.Void) (tok_lang (is k.Void) (λ i. pure_lang (returns.Void i))) (then_lang scalar_lang (λ x. final_lang (λ rest. sees (is k.BaseWord) rest ≡ false) (returns.Value x)))

result_to : (v : Returns) (ms : Spelling Token) → result_raw.spells v ms → g.IsReturns v ms
result_to v ms (inl (i, o, h, (hv, h1), e0)) = as_is g.IsReturns hv (join0 e0 h1) (g.nothing i h)
result_to v ms (inr ((x, m1, o, h, (hv, h1), e0), b)) = as_is g.IsReturns hv (last e0 refl h1) (g.scalar x m1 h)

result_from : (v : Returns) (ms : Spelling Token) → g.IsReturns v ms → result_raw.spells v ms
result_from v ms (g.nothing i h) = inl (i, [], h, (refl, refl), refl)
result_from v ms (g.scalar x m1 h) = inr ((x, m1, [], h, (refl, refl), sym (append-nil m1)), avoids k.ScalarWord k.Void refl m1 (scalar_starts x m1 h))

result_exact : (n : ℕ) → Exact n (r.result n) result_lang
unfolding r.result
result_exact n =
    as_lang result_lang
    (branch (is k.Void) (kind_exact k.Void (a_word w.Void) refl (λ i. pure_exact n (returns.Void i)))
    (seq (scalar_exact n) (λ x. final_exact n (λ rest. sees (is k.BaseWord) rest ≡ false) (returns.Value x)) (λ x v o rest q h. at_end (λ z. sees (is k.BaseWord) z ≡ false) rest q.1 h))
    (λ v ms rest q. sees_head (is k.Void) rest q.4 q.2)
    (λ v rest q h. never_empty (is k.ScalarWord) (starts_is (is k.ScalarWord) q.5 (starts_append (is k.ScalarWord) _ q.2 (scalar_starts q.0 q.1 q.3))) refl))
    result_to result_from (λ v rest h. (λ i. tt, λ x. h))

-- `void` or a type of numbers
result_starts : (v : Returns) (ms : Spelling Token) → g.IsReturns v ms → StartsWith (of (or (takes k.Void) (takes k.ScalarWord))) ms
result_starts v ms (g.nothing i h) = ((i, 0), [], refl, within_of (takes k.Void) (or (takes k.Void) (takes k.ScalarWord)) refl i h)
result_starts v ms (g.scalar x m1 h) =
    starts_by (is k.ScalarWord) (of (or (takes k.Void) (takes k.ScalarWord))) (within_of (takes k.ScalarWord) (or (takes k.Void) (takes k.ScalarWord)) refl) m1 (scalar_starts x m1 h)

-- ---- functions

abbrev pub function_lang : Language Token Function
function_lang = record { spells = g.IsFunction; halts = λ v rest. Unit {0} }

abbrev function_raw : Language Token Function
function_raw = then_lang (optional_lang k.Lead) (λ l. then_lang result_lang (λ y. tok_lang (is k.Name) (λ i. tok_lang (is k.LeftParen) (λ o.
    inner_lang params_lang (λ p. tok_lang (is k.RightParen) (λ c. then_lang block_lang (λ b. pure_lang (g.function_of l y i o p c b))))))))

function_to : (v : Function) (ms : Spelling Token) → function_raw.spells v ms → g.IsFunction v ms
function_to v ms (l, m1, o0, hl, (y, m2, o1, hy, (i, o2, hi, (o, o3, ho, (p, m3, o4, hp, (c, o5, hc, (b, m4, o6, hb, (hv, h6), e6), e5), e4), e3), e2), e1), e0) =
    as_is g.IsFunction hv
    (e0 ∙ ap (λ z. m1 ++ z) (e1 ∙ ap (λ z. m2 ++ z) (join0 e2 (join0 e3 (e4 ∙ ap (λ z. deeper m3 ++ z) (join0 e5 (last e6 refl h6)))))))
    (g.function l y i o p c b m1 m2 m3 m4 hl hy hi ho hp hc hb)

function_from : (v : Function) (ms : Spelling Token) → g.IsFunction v ms → function_raw.spells v ms
function_from v ms (g.function l y i o p c b m1 m2 m3 m4 hl hy hi ho hp hc hb) =
    (l, m1, _, hl, (y, m2, _, hy, (i, _, hi, (o, _, ho, (p, m3, _, hp, (c, _, hc, (b, m4, [], hb, (refl, refl), sym (append-nil m4)), refl), refl), refl), refl), refl), refl)

function_exact : (n : ℕ) → Exact (suc n) (r.function_rule n) function_lang
unfolding r.function_rule
function_exact n =
    let below = levels_exact n in
    as_lang function_lang
    (seq (optional_exact (suc n) k.Lead (a_word w.Kernel) refl) (λ l.
    seq (result_exact (suc n)) (λ y.
    kind_exact k.Name a_name refl (λ i. kind_exact k.LeftParen (a_mark m.LeftParen) refl (λ o.
    inner_exact (params_exact n) (λ p. kind_exact k.RightParen (a_mark m.RightParen) refl (λ c.
    seq (block_exact n (t.levels n) below.declare below.stmt) (λ b. pure_exact (suc n) (g.function_of l y i o p c b)) (λ b v z rest q h. tt)))
    (λ p v z rest q h. head EndsParams q.0 rest q.4 (λ more.
    (apart k.RightParen k.Comma refl q.0 q.2, apart k.RightParen k.Void refl q.0 q.2, apart k.RightParen k.DeclareStart refl q.0 q.2))))))
    (λ y v z rest q h. head (λ more. sees (is k.BaseWord) more ≡ false) q.0 rest q.4 (λ more. apart k.Name k.BaseWord refl q.0 q.2)))
    (λ l v z rest q h. subst (λ x. sees (is k.Lead) (tokens_of x ++ rest) ≡ false) (sym q.5) (result_first q.0 q.1 q.2 rest q.3)))
    function_to function_from (λ v rest h. λ l y i o p c b. tt)
  where
    result_first : (v : Returns) (m1 o : Spelling Token) (rest : List Token) → g.IsReturns v m1 → sees (is k.Lead) (tokens_of (m1 ++ o) ++ rest) ≡ false
    result_first v m1 o rest (g.nothing i h) = apart k.Void k.Lead refl i h
    result_first v m1 o rest (g.scalar x m2 h) = avoids_more k.ScalarWord k.Lead refl m2 o refl (scalar_starts x m2 h) rest

pub function_starts : (v : Function) (ms : Spelling Token) → g.IsFunction v ms → StartsWith (is k.FunctionStart) ms
function_starts v ms (g.function l y i o p c b m1 m2 m3 m4 hl hy hi ho hp hc hb) =
    optional_starts k.Lead k.FunctionStart refl l m1 _ hl
    (starts_append (is k.FunctionStart) m2 _ (starts_by (of (or (takes k.Void) (takes k.ScalarWord))) (is k.FunctionStart) (within_of (or (takes k.Void) (takes k.ScalarWord)) (takes k.FunctionStart) refl) m2 (result_starts y m2 hy)))

-- a token that may begin a function begins one
Opened : Token → Type 0
Opened i = (v : Function) × (e : ℕ) × (more : Spelling Token) × g.IsFunction v ((i, e) ∷ more)

an_empty_block : s.IsBlock (s.block_of (a_mark m.LeftBrace) [] (a_mark m.RightBrace)) ((a_mark m.LeftBrace, 0) ∷ (a_mark m.RightBrace, 0) ∷ [])
an_empty_block = s.block (a_mark m.LeftBrace) (a_mark m.RightBrace) [] [] refl s.no_part refl

lead_opens : (i : Token) → is k.Lead i ≡ true → Opened i
unfolding Opened
lead_opens i h = (
  _,
  0,
  _,
  g.function (Some i) (returns.Void (a_word w.Void)) a_name (a_mark m.LeftParen) None (a_mark m.RightParen) _ ((i, 0) ∷ []) ((a_word w.Void, 0) ∷ []) [] _
      (s.present k.Lead i h) (g.nothing (a_word w.Void) refl) refl refl g.none refl an_empty_block,
)

result_opens : (i : Token) (y : Returns) → g.IsReturns y ((i, 0) ∷ []) → Opened i
unfolding Opened
result_opens i y h =
    (_, 0, _, g.function None y a_name (a_mark m.LeftParen) None (a_mark m.RightParen) _ [] ((i, 0) ∷ []) [] _ (s.absent k.Lead) h refl refl g.none refl an_empty_block)

opens_by : (i : Token) → is k.FunctionStart i ≡ true → Opened i
opens_by i h = first (either (takes k.Lead) (or (takes k.Void) (or (takes k.PlainWord) (takes k.SignWord))) i
    (within_of (takes k.FunctionStart) (or (takes k.Lead) (or (takes k.Void) (or (takes k.PlainWord) (takes k.SignWord)))) refl i h))
  where
    third : (is k.PlainWord i ≡ true) ⊎ (is k.SignWord i ≡ true) → Opened i
    third (inl j) = result_opens i (returns.Value (Plain i)) (g.scalar (Plain i) ((i, 0) ∷ []) (plain i j))
    third (inr j) = result_opens i (returns.Value (Signed i None)) (g.scalar (Signed i None) ((i, 0) ∷ []) (alone i j))

    second : (is k.Void i ≡ true) ⊎ (of (or (takes k.PlainWord) (takes k.SignWord)) i ≡ true) → Opened i
    second (inl j) = result_opens i (returns.Void i) (g.nothing i j)
    second (inr j) = third (either (takes k.PlainWord) (takes k.SignWord) i j)

    first : (is k.Lead i ≡ true) ⊎ (of (or (takes k.Void) (or (takes k.PlainWord) (takes k.SignWord))) i ≡ true) → Opened i
    first (inl j) = lead_opens i j
    first (inr j) = second (either (takes k.Void) (or (takes k.PlainWord) (takes k.SignWord)) i j)

functions_exact_at : (n : ℕ) → Exact n (r.function n) function_lang
unfolding Opened
functions_exact_at zero = deny_exact (is k.FunctionStart) function_lang (record { only = function_starts; each = opens_by; token = a_word w.Void; is = refl })
functions_exact_at (suc n) = function_exact n

-- ---- programs

abbrev pub tree_lang : Language Token Tree
tree_lang = record { spells = g.IsTree; halts = λ v rest. sees (is k.FunctionStart) rest ≡ false }

functions_to : (v : List Function) (ms : Spelling Token) → AllSpelled function_lang v ms → g.AreFunctions v ms
functions_to [] ms q = subst (g.AreFunctions []) (sym q) g.no_function
functions_to (x ∷ more) ms (m1, o, h, rest, e) = subst (g.AreFunctions (x ∷ more)) (sym e) (g.one_function x more m1 o h (functions_to more o rest))

functions_from : (v : List Function) (ms : Spelling Token) → g.AreFunctions v ms → AllSpelled function_lang v ms
functions_from v ms g.no_function = refl
functions_from v ms (g.one_function x more m1 o h rest) = (m1, o, h, functions_from more o rest, refl)

abbrev tree_raw : Language Token Tree
tree_raw = then_lang (many_lang (is k.FunctionStart) function_lang) (λ all. final_lang (λ rest. sees (is k.FunctionStart) rest ≡ false) (g.tree_of all))

tree_to : (v : Tree) (ms : Spelling Token) → tree_raw.spells v ms → g.IsTree v ms
tree_to v ms (all, m1, o, h, (hv, h1), e0) = as_is g.IsTree hv (last e0 refl h1) (g.tree all m1 (functions_to all m1 h))

tree_from : (v : Tree) (ms : Spelling Token) → g.IsTree v ms → tree_raw.spells v ms
tree_from v ms (g.tree all m1 h) = (all, m1, [], functions_from all m1 h, (refl, refl), sym (append-nil m1))

pub program_exact : (n : ℕ) → Exact n (r.program n) tree_lang
unfolding r.program
program_exact n =
    as_lang tree_lang
    (seq (loop (is k.FunctionStart) (functions_exact_at n) function_starts (λ v y ys h. tt))
    (λ all. final_exact n (λ rest. sees (is k.FunctionStart) rest ≡ false) (g.tree_of all))
    (λ all v o rest q h. at_end (λ z. (sees (is k.FunctionStart) z ≡ false) × ((a : Function) → Unit {0})) rest q.1 (h, λ a. tt)))
    tree_to tree_from (λ v rest h. λ all. h)

pub functions_loop : (n : ℕ) → LoopLaws (is k.FunctionStart) (r.function n)
functions_loop n = loop_laws (is k.FunctionStart) (functions_exact_at n) function_starts (λ v y ys h. tt)

-- ---- one tree for each text

depth_of : Spelling Token → ℕ
depth_of [] = 0
depth_of (m ∷ ms) = suc (m.1 + depth_of ms)

below_more : (e n : ℕ) → e < n → below e n ≡ true
below_more e zero h = absurd (omega arith)
below_more zero (suc n) h = refl
below_more (suc e) (suc n) h = below_more e n (omega arith)

all_within : (ms : Spelling Token) (n : ℕ) → depth_of ms ≤ n → AllBelow n ms
unfolding depth_of
all_within [] n h = tt
all_within (m ∷ ms) n h = (below_more m.1 n (omega arith), all_within ms n (omega arith))

pub one_tree : (a b : Tree) (m1 m2 : Spelling Token) → g.IsTree a m1 → g.IsTree b m2 → tokens_of m1 ≡ tokens_of m2 → a ≡ b
one_tree a b m1 m2 h i e =
    let n = depth_of m1 + depth_of m2 in
    one_value n (r.program n) tree_lang (program_exact n) (λ v. refl) a b m1 m2 h i e (all_within m1 n (omega arith)) (all_within m2 n (omega arith))
