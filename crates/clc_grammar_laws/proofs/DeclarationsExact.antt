-- Declarations are read exactly.
use Rattle.std.proofs.Common.{◌≡◌, inl, inr, ℕ, suc, true, false, List, [], ◌∷◌, ◌++◌, Option, Some, None, refl, sym, ap, ◌∙◌, subst, append_assoc, append-nil}
use Rattle.clc_reading.specs.Reading.{sees, Spelling, tokens_of, deeper, Language}
use Rattle.clc_reading.proofs.Exact.{Exact, seq, branch, loop, as_lang, one_exact, one_lang, pure_exact, pure_lang, then_lang, pick_lang, AllSpelled, LoopLaws, loop_laws}
use Rattle.clc_lexer.specs.declared.token.Token.{Token}
use Rattle.clc_lexer.specs.declared.marks.Mark.TheVariants as m
use Rattle.clc_lexer.specs.declared.words.Word.TheVariants as w
use Rattle.clc_tree.specs.Kinds.{takes, is}
use Rattle.clc_tree.specs.declared.kinds.Kind.{Kind}
use Rattle.clc_tree.specs.declared.kinds.Kind.TheVariants as k
use Rattle.clc_tree.specs.Expressions.{IsScalar}
use Rattle.clc_tree.specs.Statements as g
use Rattle.clc_tree.specs.StatementRules as r
use Rattle.clc_grammar_laws.proofs.Facts.{Apart, apart, without_of}
use Rattle.clc_grammar_laws.proofs.Readers.{a_name, a_number, a_mark, a_word, as_is, join0, last, sees_head, head, at_end, tok_lang, kind_exact, inner_lang, inner_exact, final_lang, final_exact, StartsWith, starts_append, starts_is, starts_sees, never_empty, avoids, avoids_more}
use Rattle.clc_grammar_laws.proofs.Languages.{post_mark, EndsAssign, EndsExpr, assign_lang, scalar_lang, ends_assign, ends_expr}
use Rattle.clc_grammar_laws.proofs.ExpressionsExact.{scalar_exact, scalar_starts}
use Rattle.clc_grammar_laws.proofs.ExpressionLevels.{levels_exact}
use Rattle.clc_tree.specs.declared.expressions.Scalar.{Scalar}
use Rattle.clc_tree.specs.declared.statements.Pointer.{Pointer}
use Rattle.clc_tree.specs.declared.statements.Init.{Init}
use Rattle.clc_tree.specs.declared.statements.Item.{Item}
use Rattle.clc_tree.specs.declared.statements.Item.TheVariants as item
use Rattle.clc_tree.specs.declared.statements.ItemStep.{ItemStep}
use Rattle.clc_tree.specs.declared.statements.Declare.{Declare}
use Rattle.clc_tree.specs.declared.statements.Declare.TheVariants as declare

-- ---- a token of a kind, or none

abbrev pub optional_lang : Kind → Language Token (Option Token)
optional_lang f = record { spells = g.IsOptional f; halts = λ v rest. sees (is f) rest ≡ false }

abbrev optional_raw : Kind → Language Token (Option Token)
optional_raw f = pick_lang (is f) (tok_lang (is f) (λ t. pure_lang (Some t))) (final_lang (λ rest. sees (is f) rest ≡ false) None)

optional_to : (f : Kind) (v : Option Token) (ms : Spelling Token) → (optional_raw f).spells v ms → g.IsOptional f v ms
optional_to f v ms (inl (t, o, h, (hv, h1), e0)) = as_is (g.IsOptional f) hv (join0 e0 h1) (g.present f t h)
optional_to f v ms (inr ((hv, h1), b)) = as_is (g.IsOptional f) hv h1 (g.absent f)

optional_from : (f : Kind) (v : Option Token) (ms : Spelling Token) → g.IsOptional f v ms → (optional_raw f).spells v ms
optional_from f v ms (g.absent i) = inr ((refl, refl), refl)
optional_from f v ms (g.present i t h) = inl (t, [], h, (refl, refl), refl)

pub optional_exact : (n : ℕ) (f : Kind) (t : Token) → is f t ≡ true → Exact n (r.optional n f) (optional_lang f)
unfolding r.optional
optional_exact n f t h =
    as_lang (optional_lang f)
    (branch (is f) (kind_exact f t h (λ u. pure_exact n (Some u))) (final_exact n (λ rest. sees (is f) rest ≡ false) None)
    (λ v ms rest s. sees_head (is f) rest s.4 s.2) (λ v rest s h. h))
    (optional_to f) (optional_from f) (λ v rest h. (λ t. tt, h))

-- before a text that doesn't begin with another kind
pub optional_avoids : (f i : Kind) → Apart (takes f) (takes i) → (v : Option Token) (ms : Spelling Token) → g.IsOptional f v ms → (rest : List Token) → sees (is i) rest ≡ false → sees (is i) (tokens_of ms ++ rest) ≡ false
optional_avoids f i a v ms (g.absent j) rest h = h
optional_avoids f i a v ms (g.present j t o) rest h = apart j i a t o

-- ---- pointers

-- a pointer after its first `const`
pub data IsPointerFrom : Option Token → Pointer → Spelling Token → Type 0 where
  from_space : (c : Option Token) (s : Token) (d : Option Token) (e : Scalar) (x : Token) (o r : Option Token) (n p q w : Spelling Token)
      → is k.Space s ≡ true → g.IsOptional k.Const d n → IsScalar e p → is k.Star x ≡ true → g.IsOptional k.Const o q → g.IsOptional k.Restrict r w
      → IsPointerFrom c (g.pointer_of c s d e x o r) ((s, 0) ∷ (n ++ (p ++ (x, 0) ∷ (q ++ w))))

abbrev pub EndsPointer : List Token → Type 0
EndsPointer rest = (sees (is k.Const) rest ≡ false) × (sees (is k.Restrict) rest ≡ false)

abbrev pub pointer_lang : Option Token → Language Token Pointer
pointer_lang c = record { spells = IsPointerFrom c; halts = λ v rest. EndsPointer rest }

abbrev pointer_end : Option Token → Token → Option Token → Scalar → Token → Option Token → Language Token Pointer
pointer_end c s d e x o = then_lang (optional_lang k.Restrict) (λ i. final_lang EndsPointer (g.pointer_of c s d e x o i))

abbrev pointer_raw : Option Token → Language Token Pointer
pointer_raw c = tok_lang (is k.Space) (λ s. then_lang (optional_lang k.Const) (λ d. then_lang scalar_lang (λ e. tok_lang (is k.Star) (λ x.
    then_lang (optional_lang k.Const) (λ o. pointer_end c s d e x o)))))

pointer_to : (c : Option Token) (v : Pointer) (ms : Spelling Token) → (pointer_raw c).spells v ms → IsPointerFrom c v ms
pointer_to c v ms (s, o0, hs, (d, n, o1, hd, (e, p, o2, he, (x, o3, hx, (o, q, o4, ho, (i, w, o5, hi, (hv, h5), e5), e4), e3), e2), e1), e0) =
    as_is (IsPointerFrom c) hv
    (join0 e0 (e1 ∙ ap (λ z. n ++ z) (e2 ∙ ap (λ z. p ++ z) (join0 e3 (e4 ∙ ap (λ z. q ++ z) (last e5 refl h5))))))
    (from_space c s d e x o i n p q w hs hd he hx ho hi)

pointer_back : (c : Option Token) (v : Pointer) (ms : Spelling Token) → IsPointerFrom c v ms → (pointer_raw c).spells v ms
pointer_back c v ms (from_space j s d e x o i n p q w hs hd he hx ho hi) =
    (s, _, hs, (d, n, _, hd, (e, p, _, he, (x, _, hx, (o, q, w, ho, (i, w, [], hi, (refl, refl), sym (append-nil w)), refl), refl), refl), refl), refl)

restrict_follows : (c : Option Token) (s : Token) (d : Option Token) (e : Scalar) (x : Token) (o : Option Token) (v : Pointer) (ms : Spelling Token) (rest : List Token)
    → (pointer_end c s d e x o).spells v ms → (pointer_end c s d e x o).halts v rest → sees (is k.Const) (tokens_of ms ++ rest) ≡ false
restrict_follows c s d e x o v ms rest (i, w, o5, hi, (hv, h5), e5) h =
    ap (λ z. sees (is k.Const) (tokens_of z ++ rest)) (last e5 refl h5) ∙ optional_avoids k.Restrict k.Const refl i w hi rest (h i).0

pub pointer_exact : (n : ℕ) (c : Option Token) → Exact n (r.pointer_from n c) (pointer_lang c)
unfolding r.pointer_from
pointer_exact n c =
    as_lang (pointer_lang c)
    (kind_exact k.Space (a_word w.Global) refl (λ s.
    seq (optional_exact n k.Const (a_word w.Const) refl) (λ d.
    seq (scalar_exact n) (λ e.
    kind_exact k.Star (a_mark m.Star) refl (λ x.
    seq (optional_exact n k.Const (a_word w.Const) refl) (λ o.
    seq (optional_exact n k.Restrict (a_word w.Restrict) refl) (λ i. final_exact n EndsPointer (g.pointer_of c s d e x o i))
    (λ i v ms rest q h. at_end (λ z. sees (is k.Restrict) z ≡ false) rest q.1 h.1))
    (λ o v ms rest q h. restrict_follows c s d e x o v ms rest q h)))
    (λ e v ms rest q h. head (λ z. sees (is k.BaseWord) z ≡ false) q.0 rest q.4 (λ more. apart k.Star k.BaseWord refl q.0 q.2)))
    (λ d v ms rest q h. avoids_more k.ScalarWord k.Const refl q.1 q.2 q.5 (scalar_starts q.0 q.1 q.3) rest)))
    (pointer_to c) (pointer_back c) (λ v rest h. λ s d e x o i. h)

pub pointer_starts : (c : Option Token) (v : Pointer) (ms : Spelling Token) → IsPointerFrom c v ms → StartsWith (is k.Space) ms
pointer_starts c v ms (from_space j s d e x o i n p q w hs hd he hx ho hi) = ((s, 0), _, refl, hs)

pub pointer_join : (c : Option Token) (m : Spelling Token) → g.IsOptional k.Const c m → (v : Pointer) (n : Spelling Token) → IsPointerFrom c v n → g.IsPointer v (m ++ n)
pointer_join c m h v n (from_space j s d e x o i n1 p q w hs hd he hx ho hi) = g.pointer j s d e x o i m n1 p q w h hs hd he hx ho hi

-- ---- initialisers and items

abbrev init_lang : Language Token (Option Init)
init_lang = record { spells = g.IsInit; halts = λ v rest. EndsAssign rest }

abbrev init_raw : Language Token (Option Init)
init_raw = pick_lang (is k.Equals) (tok_lang (is k.Equals) (λ t. then_lang assign_lang (λ a. final_lang EndsAssign (Some (g.init_of t a))))) (final_lang EndsAssign None)

init_to : (v : Option Init) (ms : Spelling Token) → init_raw.spells v ms → g.IsInit v ms
init_to v ms (inl (t, o0, h, (a, m1, o1, ha, (hv, h1), e1), e0)) = as_is g.IsInit hv (join0 e0 (last e1 refl h1)) (g.init t a m1 h ha)
init_to v ms (inr ((hv, h1), b)) = as_is g.IsInit hv h1 g.no_init

init_from : (v : Option Init) (ms : Spelling Token) → g.IsInit v ms → init_raw.spells v ms
init_from v ms g.no_init = inr ((refl, refl), refl)
init_from v ms (g.init t a m1 h ha) = inl (t, m1, h, (a, m1, [], ha, (refl, refl), sym (append-nil m1)), refl)

init_exact : (n : ℕ) → Exact (suc n) (r.initial n) init_lang
unfolding r.initial
init_exact n =
    as_lang init_lang
    (branch (is k.Equals)
    (kind_exact k.Equals (a_mark m.Assign) refl (λ t. seq (levels_exact (suc n)).assign (λ a. final_exact (suc n) EndsAssign (Some (g.init_of t a))) (λ a v o rest s h. at_end EndsAssign rest s.1 h)))
    (final_exact (suc n) EndsAssign None)
    (λ v ms rest s. sees_head (is k.Equals) rest s.4 s.2) (λ v rest s h. without_of (takes k.Equals) (takes k.Assignment) refl rest h.1))
    init_to init_from (λ v rest h. (λ t a. h, h))

-- what an initialiser begins with isn't of another kind
init_avoids : (f : Kind) → Apart (takes k.Equals) (takes f) → (v : Option Init) (ms : Spelling Token) → g.IsInit v ms → sees (is f) (tokens_of ms) ≡ false
init_avoids f a v ms g.no_init = refl
init_avoids f a v ms (g.init t x m1 h hx) = apart k.Equals f a t h

abbrev item_lang : Language Token Item
item_lang = record { spells = g.IsItem; halts = λ v rest. EndsAssign rest }

abbrev array_raw : Token → Language Token Item
array_raw t = tok_lang (is k.LeftBracket) (λ l. inner_lang (one_lang (is k.Number)) (λ v. tok_lang (is k.RightBracket) (λ i. pure_lang (item.Array t l v i))))

abbrev variable_raw : Token → Language Token Item
variable_raw t = then_lang init_lang (λ i. final_lang EndsAssign (item.Value t i))

abbrev item_raw : Language Token Item
item_raw = tok_lang (is k.Name) (λ t. pick_lang (is k.LeftBracket) (array_raw t) (variable_raw t))

item_to : (v : Item) (ms : Spelling Token) → item_raw.spells v ms → g.IsItem v ms
item_to v ms (t, o0, ht, inl (l, o1, hl, (y, m1, o2, (hy, h1), (i, o3, hi, (hv, h3), e3), e2), e1), e0) =
    as_is g.IsItem hv (join0 e0 (join0 e1 (e2 ∙ ap (λ z. deeper z ++ o2) h1 ∙ ap (λ z. (y, 1) ∷ z) (join0 e3 h3)))) (g.array t l y i ht hl hy hi)
item_to v ms (t, o0, ht, inr ((i, m1, o1, hi, (hv, h1), e1), b), e0) = as_is g.IsItem hv (join0 e0 (last e1 refl h1)) (g.variable t i m1 ht hi)

item_from : (v : Item) (ms : Spelling Token) → g.IsItem v ms → item_raw.spells v ms
item_from v ms (g.array t l y i ht hl hy hi) = (t, _, ht, inl (l, _, hl, (y, (y, 0) ∷ [], _, (hy, refl), (i, [], hi, (refl, refl), refl), refl), refl), refl)
item_from v ms (g.variable t i m1 ht hi) = (t, m1, ht, inr ((i, m1, [], hi, (refl, refl), sym (append-nil m1)), init_avoids k.LeftBracket refl i m1 hi), refl)

array_exact : (n : ℕ) (t : Token) → Exact (suc n) (r.array_from n t) (array_raw t)
unfolding r.array_from
array_exact n t =
    kind_exact k.LeftBracket (a_mark m.LeftBracket) refl (λ l.
    inner_exact (one_exact (is k.Number) a_number refl n) (λ v. kind_exact k.RightBracket (a_mark m.RightBracket) refl (λ i. pure_exact (suc n) (item.Array t l v i)))
    (λ v y o rest s h. tt))

item_exact : (n : ℕ) → Exact (suc n) (r.item_of n) item_lang
unfolding r.item_of
item_exact n =
    as_lang item_lang
    (kind_exact k.Name a_name refl (λ t. branch (is k.LeftBracket) (array_exact n t)
    (seq (init_exact n) (λ i. final_exact (suc n) EndsAssign (item.Value t i)) (λ i v o rest s h. at_end EndsAssign rest s.1 h))
    (λ v ms rest s. sees_head (is k.LeftBracket) rest s.4 s.2) (λ v rest s h. without_of (takes k.LeftBracket) post_mark refl rest (h None).0.0.0)))
    item_to item_from (λ v rest h. λ t. (λ l y i. tt, λ i. h))

item_starts : (v : Item) (ms : Spelling Token) → g.IsItem v ms → StartsWith (is k.Name) ms
item_starts v ms (g.array t l y i ht hl hy hi) = ((t, 0), _, refl, ht)
item_starts v ms (g.variable t i m1 ht hi) = ((t, 0), _, refl, ht)

abbrev item_step_raw : Language Token ItemStep
item_step_raw = tok_lang (is k.Comma) (λ t. then_lang item_lang (λ i. final_lang EndsAssign (g.item_step t i)))

abbrev items_lang : Language Token (List ItemStep)
items_lang = record { spells = g.AreItems; halts = λ v rest. EndsExpr rest }

items_to : (v : List ItemStep) (ms : Spelling Token) → AllSpelled item_step_raw v ms → g.AreItems v ms
items_to [] ms s = subst (g.AreItems []) (sym s) g.no_item
items_to (y ∷ more) ms (m1, m2, (t, o, h, (a, m3, o3, ha, (hp, h3), e3), e1), rest, e0) =
    as_is g.AreItems (ap (λ z. z ∷ more) hp) (e0 ∙ ap (λ z. z ++ m2) (join0 e1 (last e3 refl h3))) (g.one_item t a more m3 m2 h ha (items_to more m2 rest))

items_from : (v : List ItemStep) (ms : Spelling Token) → g.AreItems v ms → AllSpelled item_step_raw v ms
items_from v ms g.no_item = refl
items_from v ms (g.one_item t a more m1 m2 h ha rest) = ((t, 0) ∷ m1, m2, (t, m1, h, (a, m1, [], ha, (refl, refl), sym (append-nil m1)), refl), items_from more m2 rest, refl)

item_step_exact : (n : ℕ) → Exact (suc n) (r.item_after n) item_step_raw
unfolding r.item_after
item_step_exact n = kind_exact k.Comma (a_mark m.Comma) refl (λ t. seq (item_exact n) (λ i. final_exact (suc n) EndsAssign (g.item_step t i)) (λ i v o rest s h. at_end EndsAssign rest s.1 h))

items_exact : (n : ℕ) → Exact (suc n) (r.items_after n) items_lang
items_exact n =
    as_lang items_lang
    (loop (is k.Comma) (item_step_exact n) (λ v ms s. ((s.0, 0), s.1, s.4, s.2)) (λ v y ys h. λ t i. ends_assign k.Comma refl y ys h))
    items_to items_from (λ v rest h. (h.1, λ a t i. h.0))

pub items_loop : (n : ℕ) → LoopLaws (is k.Comma) (r.item_after n)
items_loop n = loop_laws (is k.Comma) (item_step_exact n) (λ v ms s. ((s.0, 0), s.1, s.4, s.2)) (λ v y ys h. λ t i. ends_assign k.Comma refl y ys h)

-- ---- declarations

abbrev pub declare_lang : Language Token Declare
declare_lang = record { spells = g.IsDeclare; halts = λ v rest. Unit {0} }

abbrev values_end : Option Token → Scalar → Item → Language Token Declare
values_end c s i = then_lang items_lang (λ more. tok_lang (is k.Semicolon) (λ t. pure_lang (declare.Values c s i more t)))

abbrev values_raw : Option Token → Language Token Declare
values_raw c = then_lang scalar_lang (λ s. then_lang item_lang (λ i. values_end c s i))

-- after an item comes `,` or `;`
items_follow : (more : List ItemStep) (m o k1 : Spelling Token) (t : Token) (rest : List Token) → g.AreItems more m → o ≡ (t, 0) ∷ k1 → is k.Semicolon t ≡ true → EndsAssign (tokens_of (m ++ o) ++ rest)
items_follow more m o k1 t rest g.no_item e h = head EndsAssign t rest e (λ z. ends_assign k.Semicolon refl t z h)
items_follow more m o k1 t rest (g.one_item u i x m1 m2 hu hi hx) e h = ends_assign k.Comma refl u (tokens_of ((m1 ++ m2) ++ o) ++ rest) hu

values_exact : (n : ℕ) (c : Option Token) → Exact (suc n) (r.values_from n c) (values_raw c)
unfolding r.values_from
values_exact n c =
    seq (scalar_exact (suc n)) (λ s.
    seq (item_exact n) (λ i.
    seq (items_exact n) (λ more. kind_exact k.Semicolon (a_mark m.Semicolon) refl (λ t. pure_exact (suc n) (declare.Values c s i more t)))
    (λ more v o rest q h. head EndsExpr q.0 rest q.4 (λ z. ends_expr k.Semicolon refl q.0 z q.2)))
    (λ i v o rest q h. subst (λ z. EndsAssign (tokens_of z ++ rest)) (sym q.5) (items_follow q.0 q.1 q.2 q.4.1 q.4.0 rest q.3 q.4.4 q.4.2)))
    (λ s v o rest q h. avoids_more k.Name k.BaseWord refl q.1 q.2 q.5 (item_starts q.0 q.1 q.3) rest)

abbrev named_raw : Pointer → Language Token Declare
named_raw p = tok_lang (is k.Name) (λ t. then_lang init_lang (λ i. tok_lang (is k.Semicolon) (λ u. pure_lang (declare.Pointer p t i u))))

named_exact : (n : ℕ) (p : Pointer) → Exact (suc n) (r.named_from n p) (named_raw p)
unfolding r.named_from
named_exact n p =
    kind_exact k.Name a_name refl (λ t.
    seq (init_exact n) (λ i. kind_exact k.Semicolon (a_mark m.Semicolon) refl (λ u. pure_exact (suc n) (declare.Pointer p t i u)))
    (λ i v o rest q h. head EndsAssign q.0 rest q.4 (λ z. ends_assign k.Semicolon refl q.0 z q.2)))

abbrev declare_rest : Option Token → Language Token Declare
declare_rest c = pick_lang (is k.Space) (then_lang (pointer_lang c) (λ p. named_raw p)) (values_raw c)

abbrev declare_raw : Language Token Declare
declare_raw = then_lang (optional_lang k.Const) (λ c. declare_rest c)

declare_to : (v : Declare) (ms : Spelling Token) → declare_raw.spells v ms → g.IsDeclare v ms
declare_to v ms (c, mc, o0, hc, inl (p, mp, o1, hp, (t, o2, ht, (i, mi, o3, hi, (u, o4, hu, (hv, h4), e4), e3), e2), e1), e0) =
    as_is g.IsDeclare hv
    (e0 ∙ ap (λ z. mc ++ z) (e1 ∙ ap (λ z. mp ++ z) (join0 e2 (e3 ∙ ap (λ z. mi ++ z) (join0 e4 h4)))) ∙ sym (append_assoc mc mp _))
    (g.pointers p t i u (mc ++ mp) mi (pointer_join c mc hc p mp hp) ht hi hu)
declare_to v ms (c, mc, o0, hc, inr ((s, ms1, o1, hs, (i, mi, o2, hi, (more, mm, o3, hm, (t, o4, ht, (hv, h4), e4), e3), e2), e1), b), e0) =
    as_is g.IsDeclare hv
    (e0 ∙ ap (λ z. mc ++ z) (e1 ∙ ap (λ z. ms1 ++ z) (e2 ∙ ap (λ z. mi ++ z) (e3 ∙ ap (λ z. mm ++ z) (join0 e4 h4)))))
    (g.values c s i more t mc ms1 mi mm hc hs hi hm ht)

declare_from : (v : Declare) (ms : Spelling Token) → g.IsDeclare v ms → declare_raw.spells v ms
declare_from v ms (g.values c s i more t mc ms1 mi mm hc hs hi hm ht) = (
  c,
  mc,
  _,
  hc,
  inr (
    (s, ms1, _, hs, (i, mi, _, hi, (more, mm, _, hm, (t, [], ht, (refl, refl), refl), refl), refl), refl),
    avoids k.ScalarWord k.Space refl _ (starts_append (is k.ScalarWord) ms1 _ (scalar_starts s ms1 hs)),
  ),
  refl,
)
declare_from v ms (g.pointers p t i u mp mi (g.pointer c s d e y o j mc n q w1 w2 hc hs hd he hy ho hj) ht hi hu) =
    (c, mc, _, hc, inl (_, _, _, from_space c s d e y o j n q w1 w2 hs hd he hy ho hj, (t, _, ht, (i, mi, _, hi, (u, [], hu, (refl, refl), refl), refl), refl), refl), append_assoc mc _ _)

rest_avoids : (c : Option Token) (v : Declare) (ms : Spelling Token) (rest : List Token) → (declare_rest c).spells v ms → sees (is k.Const) (tokens_of ms ++ rest) ≡ false
rest_avoids c v ms rest (inl q) = avoids_more k.Space k.Const refl q.1 q.2 q.5 (pointer_starts c q.0 q.1 q.3) rest
rest_avoids c v ms rest (inr (q, b)) = avoids_more k.ScalarWord k.Const refl q.1 q.2 q.5 (scalar_starts q.0 q.1 q.3) rest

pub declare_exact : (n : ℕ) → Exact (suc n) (r.declaration n) declare_lang
unfolding r.declaration
declare_exact n =
    as_lang declare_lang
    (seq (optional_exact (suc n) k.Const (a_word w.Const) refl) (λ c.
    branch (is k.Space)
    (seq (pointer_exact (suc n) c) (named_exact n) (λ p v o rest q h. head EndsPointer q.0 rest q.4 (λ z. (apart k.Name k.Const refl q.0 q.2, apart k.Name k.Restrict refl q.0 q.2))))
    (values_exact n c)
    (λ v ms rest q. starts_sees (is k.Space) ms rest (starts_is (is k.Space) q.5 (starts_append (is k.Space) _ q.2 (pointer_starts c q.0 q.1 q.3))))
    (λ v rest q h. never_empty (is k.ScalarWord) (starts_is (is k.ScalarWord) q.5 (starts_append (is k.ScalarWord) _ q.2 (scalar_starts q.0 q.1 q.3))) refl))
    (λ c v o rest q h. rest_avoids c v o rest q))
    declare_to declare_from (λ v rest h. λ c. (λ p t i u. tt, λ s i more t. tt))
