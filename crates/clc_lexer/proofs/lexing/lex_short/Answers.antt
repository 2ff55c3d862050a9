use Rattle.std.proofs.Common.{◌≡◌, ◌-◌, length, Ok, take, drop, sym, subst, arith}
use Rattle.std.proofs.lemmas.Grind.{common_steps}
use Rattle.clc_lexer.specs.Walking.{IsWalked, Steps}
use Rattle.clc_lexer.proofs.Walks.{walk_token, walk_blank}
use Rattle.clc_lexer.proofs.lexing.lex_short.Goals as goal

pub pieces-preserved-in_ok-push : goal.pieces-preserved-in_ok-push
pieces-preserved-in_ok-push c =
    let source = c.args.source.now in
    let at = c.pieces.at in
    let step = c.in_ok-token.field-0 in
    let all : take (length source - at) (drop at source) ≡ drop at source = grind (arith, common_steps) in
    let steps : Steps (drop at source) at (Ok step) = subst (λ z. Steps z at (Ok step)) all c.in_ok-token.ensures in
    subst (IsWalked source step.end) (sym c.in_ok-push.ensures.items) (walk_token source at c.pieces.tokens.items step c.in-Some.token c.pieces.invariant steps c.in-Some.is).1

pub pieces-preserved : goal.pieces-preserved
pieces-preserved c =
    let source = c.args.source.now in
    let at = c.pieces.at in
    let step = c.in_ok-token.field-0 in
    let all : take (length source - at) (drop at source) ≡ drop at source = grind (arith, common_steps) in
    let steps : Steps (drop at source) at (Ok step) = subst (λ z. Steps z at (Ok step)) all c.in_ok-token.ensures in
    (walk_blank source at c.pieces.tokens.items step c.pieces.invariant steps c.in_default.is).1
