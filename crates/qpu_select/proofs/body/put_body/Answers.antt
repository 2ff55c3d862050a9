use Rattle.std.proofs.Common.{◌≡◌, ◌+◌, [], ◌∷◌, refl, sym, ap, ◌∙◌, subst, map, drop}
use Rattle.std.proofs.lemmas.List.{drop_more}
use Rattle.vpm_dma_lower.specs.Accesses.{code_from}
use Rattle.qpu_select.specs.declared.emitted.Emitted.{Emitted}
use Rattle.qpu_select.specs.Code.{emit, adds, then_row}
use Rattle.qpu_select.specs.Clears.{clear, cleared, namings, seen_after, emit_body}
use Rattle.qpu_select.specs.Emitting.{start_of, Adds}
use Rattle.qpu_select.proofs.Clearing.{ops_add}
use Rattle.qpu_select.proofs.Loops.{Rest, rest_goes}
use Rattle.qpu_select.proofs.body.put_body.Goals as goal

pub loop-stmt-preserved : goal.loop-stmt-preserved
loop-stmt-preserved c =
    let h = c.args.h in
    let cs = map code_from c.args.list.now in
    let body = c.args.body.now in
    let i = c.loop-stmt.stmt-index in
    let seen = c.loop-stmt.invariant.0 in
    let marks = c.loop-stmt.invariant.1 in
    let stmt = c.stmt-item.result in
    let old = c.args.out.now in
    let now = c.loop-stmt.out in
    let mid : Emitted = record { closed = now.closed; ops = c.put_cleared.new.ops; next = now.next } in
    let new = c.put_statement.new.out in
    let more = map clear (cleared seen (namings h stmt)) in
    let whole = emit_body h cs [] body in
    let left = emit_body h cs (seen_after seen (namings h stmt)) (drop (i + 1) body) in
    let split : drop i body ≡ stmt ∷ drop (i + 1) body = drop_more body i stmt c.loop-stmt-test.true ∙ ap (λ s. s ∷ drop (i + 1) body) (sym c.stmt-item.is) in
    let rest : Rest whole old (λ s. then_row s (adds s more) (λ t. then_row t (emit h cs stmt t) left)) now
    = subst (λ l. Rest whole old (emit_body h cs seen l) now) split c.loop-stmt.invariant.2 in
    let first : Adds (adds (start_of now) more) now mid = ops_add now mid more refl (c.in_ok-put_cleared.ensures.code seen marks) refl in
    let second : Adds (emit h cs stmt (start_of mid)) mid new = c.in_ok-put_statement.ensures in (
      seen_after seen (namings h stmt),
      c.in_ok-put_cleared.ensures.marks seen marks,
      rest_goes whole (emit h cs stmt) left old mid new second
          (rest_goes whole (λ s. adds s more) (λ t. then_row t (emit h cs stmt t) left) old now mid first rest),
    )
