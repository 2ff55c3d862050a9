-- The grammar of expressions: which trees are proper, and their tokens with the depth of each.
use Rattle.std.specs.Prelude.{◌≡◌, ℕ, zero, suc, true, List, [], ◌∷◌, ◌++◌, Option, Some, None}
use Rattle.clc_reading.specs.Reading.{Spelling, deeper}
use Rattle.clc_tree.specs.Kinds.{is, ranks}
use Rattle.clc_tree.specs.declared.kinds.Kind.TheVariants as k
use Rattle.clc_lexer.specs.declared.token.Token.{Token}
use Rattle.clc_tree.specs.declared.expressions.Scalar.{Scalar}
use Rattle.clc_tree.specs.declared.expressions.Scalar.TheVariants.{Plain, Signed}
use Rattle.clc_tree.specs.declared.expressions.Expr.{Expr, roll-Expr}
use Rattle.clc_tree.specs.declared.expressions.CommaStep.{CommaStep, roll-CommaStep}
use Rattle.clc_tree.specs.declared.expressions.Assign.{Assign}
use Rattle.clc_tree.specs.declared.expressions.Assign.TheVariants as assign
use Rattle.clc_tree.specs.declared.expressions.Cond.{Cond, roll-Cond}
use Rattle.clc_tree.specs.declared.expressions.Choice.{Choice, roll-Choice}
use Rattle.clc_tree.specs.declared.expressions.Chain.{Chain}
use Rattle.clc_tree.specs.declared.expressions.Chain.TheVariants as chain
use Rattle.clc_tree.specs.declared.expressions.ChainStep.{ChainStep, roll-ChainStep}
use Rattle.clc_tree.specs.declared.expressions.Cast.{Cast}
use Rattle.clc_tree.specs.declared.expressions.Cast.TheVariants as cast
use Rattle.clc_tree.specs.declared.expressions.Unary.{Unary}
use Rattle.clc_tree.specs.declared.expressions.Unary.TheVariants as unary
use Rattle.clc_tree.specs.declared.expressions.Post.{Post, roll-Post}
use Rattle.clc_tree.specs.declared.expressions.PostStep.{PostStep}
use Rattle.clc_tree.specs.declared.expressions.PostStep.TheVariants as post
use Rattle.clc_tree.specs.declared.expressions.Primary.{Primary}
use Rattle.clc_tree.specs.declared.expressions.Primary.TheVariants as primary

-- values made of their parts
abbrev pub comma_of : Token → Assign → CommaStep
comma_of t a = roll-CommaStep (record { comma = t; value = a })

abbrev pub expr_of : Assign → List CommaStep → Expr
expr_of a more = roll-Expr (record { first = a; rest = more })

abbrev pub cond_of : Chain → Option Choice → Cond
cond_of c choice = roll-Cond (record { test = c; choice = choice })

abbrev pub choice_of : Token → Expr → Token → Cond → Choice
choice_of q a c b = roll-Choice (record { question = q; yes = a; colon = c; no = b })

abbrev pub step_of : Token → Chain → ChainStep
step_of t c = roll-ChainStep (record { operator = t; operand = c })

abbrev pub post_of : Primary → List PostStep → Post
post_of p more = roll-Post (record { primary = p; rest = more })

pub data IsScalar : Scalar → Spelling Token → Type 0 where
  plain : (t : Token) → is k.PlainWord t ≡ true → IsScalar (Plain t) ((t, 0) ∷ [])
  alone : (t : Token) → is k.SignWord t ≡ true → IsScalar (Signed t None) ((t, 0) ∷ [])
  long : (t u : Token) → is k.SignWord t ≡ true → is k.BaseWord u ≡ true → IsScalar (Signed t (Some u)) ((t, 0) ∷ (u, 0) ∷ [])

mutual
  pub data IsExpr : Expr → Spelling Token → Type 0 where
    list : (a : Assign) (more : List CommaStep) (m n : Spelling Token) → IsAssign a m → AreCommas more n → IsExpr (expr_of a more) (m ++ n)

  pub data AreCommas : List CommaStep → Spelling Token → Type 0 where
    no_comma : AreCommas [] []
    comma : (t : Token) (a : Assign) (more : List CommaStep) (m n : Spelling Token) → is k.Comma t ≡ true → IsAssign a m → AreCommas more n → AreCommas (comma_of t a ∷ more) ((t, 0) ∷ (m ++ n))

  pub data IsAssign : Assign → Spelling Token → Type 0 where
    value : (c : Cond) (m : Spelling Token) → IsCond c m → IsAssign (assign.Cond c) m
    set : (u : Unary) (t : Token) (a : Assign) (m n : Spelling Token) → IsUnary u m → is k.Assignment t ≡ true → IsAssign a n → IsAssign (assign.Set u t a) (m ++ (t, 0) ∷ deeper n)

  pub data IsCond : Cond → Spelling Token → Type 0 where
    test : (c : Chain) (m : Spelling Token) → IsChain ranks c m → IsCond (cond_of c None) m
    choice : (c : Chain) (q e : Token) (a : Expr) (b : Cond) (m n o : Spelling Token) → IsChain ranks c m → is k.Question q ≡ true → IsExpr a n → is k.Colon e ≡ true → IsCond b o
        → IsCond (cond_of c (Some (choice_of q a e b))) (m ++ (q, 0) ∷ deeper (n ++ (e, 0) ∷ o))

  -- an operand with the operators of the n tightest levels
  pub data IsChain : ℕ → Chain → Spelling Token → Type 0 where
    operand : (c : Cast) (m : Spelling Token) → IsCast c m → IsChain zero (chain.One c) m
    tighter : (n : ℕ) (c : Chain) (m : Spelling Token) → IsChain n c m → IsChain (suc n) c m
    level : (n : ℕ) (c : Chain) (s : ChainStep) (more : List ChainStep) (m o : Spelling Token) → IsChain n c m → AreSteps n (s ∷ more) o → IsChain (suc n) (chain.Level c (s ∷ more)) (m ++ o)

  pub data AreSteps : ℕ → List ChainStep → Spelling Token → Type 0 where
    no_step : (n : ℕ) → AreSteps n [] []
    step : (n : ℕ) (t : Token) (c : Chain) (more : List ChainStep) (m o : Spelling Token) → is (k.Rank n) t ≡ true → IsChain n c m → AreSteps n more o → AreSteps n (step_of t c ∷ more) ((t, 0) ∷ (m ++ o))

  pub data IsCast : Cast → Spelling Token → Type 0 where
    to : (l r : Token) (s : Scalar) (c : Cast) (m n : Spelling Token) → is k.LeftParen l ≡ true → IsScalar s m → is k.RightParen r ≡ true → IsCast c n
        → IsCast (cast.To l s r c) ((l, 0) ∷ (deeper m ++ (r, 0) ∷ deeper n))
    of : (u : Unary) (m : Spelling Token) → IsUnary u m → IsCast (cast.Of u) m

  pub data IsUnary : Unary → Spelling Token → Type 0 where
    postfix : (p : Post) (m : Spelling Token) → IsPost p m → IsUnary (unary.Post p) m
    before : (t : Token) (u : Unary) (m : Spelling Token) → is k.Step t ≡ true → IsUnary u m → IsUnary (unary.Step t u) ((t, 0) ∷ deeper m)
    prefix : (t : Token) (c : Cast) (m : Spelling Token) → is k.Prefix t ≡ true → IsCast c m → IsUnary (unary.Prefix t c) ((t, 0) ∷ deeper m)

  pub data IsPost : Post → Spelling Token → Type 0 where
    steps : (p : Primary) (more : List PostStep) (m n : Spelling Token) → IsPrimary p m → ArePosts more n → IsPost (post_of p more) (m ++ n)

  pub data ArePosts : List PostStep → Spelling Token → Type 0 where
    no_post : ArePosts [] []
    index : (l r : Token) (e : Expr) (more : List PostStep) (m n : Spelling Token) → is k.LeftBracket l ≡ true → IsExpr e m → is k.RightBracket r ≡ true → ArePosts more n
        → ArePosts (post.Index l e r ∷ more) (((l, 0) ∷ (deeper m ++ (r, 0) ∷ [])) ++ n)
    after : (t : Token) (more : List PostStep) (n : Spelling Token) → is k.Step t ≡ true → ArePosts more n → ArePosts (post.Step t ∷ more) ((t, 0) ∷ n)

  pub data IsPrimary : Primary → Spelling Token → Type 0 where
    name : (t : Token) → is k.Name t ≡ true → IsPrimary (primary.Name t) ((t, 0) ∷ [])
    number : (t : Token) → is k.Number t ≡ true → IsPrimary (primary.Number t) ((t, 0) ∷ [])
    paren : (l r : Token) (e : Expr) (m : Spelling Token) → is k.LeftParen l ≡ true → IsExpr e m → is k.RightParen r ≡ true → IsPrimary (primary.Paren l e r) ((l, 0) ∷ (deeper m ++ (r, 0) ∷ []))
    call0 : (f l r : Token) → is k.Name f ≡ true → is k.LeftParen l ≡ true → is k.RightParen r ≡ true → IsPrimary (primary.Call f l None r) ((f, 0) ∷ (l, 0) ∷ (r, 0) ∷ [])
    call : (f l r : Token) (e : Expr) (m : Spelling Token) → is k.Name f ≡ true → is k.LeftParen l ≡ true → IsExpr e m → is k.RightParen r ≡ true
        → IsPrimary (primary.Call f l (Some e) r) ((f, 0) ∷ (l, 0) ∷ (deeper m ++ (r, 0) ∷ []))
