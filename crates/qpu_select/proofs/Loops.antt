-- What statements and loops add, from what each step of them adds.
use Rattle.std.proofs.Common.{◌≡◌, ℕ, ◌+◌, List, [], ◌∷◌, ◌++◌, refl, sym, ap, ◌∙◌, subst, map, length, set, append_assoc, length-append}
use Rattle.std.proofs.lemmas.List.{length-map, append-nil, set_at}
use Rattle.qpu_encode.specs.declared.form.BraCond.{BraCond}
use Rattle.lane_ir.specs.declared.form.LaneStmt.{LaneStmt, Row_of-LaneStmt, end_of-LaneStmt, more_of-LaneStmt, items-the_row-LaneStmt, items_hidden-the_row-LaneStmt-0}
use Rattle.lane_ir.specs.declared.form.LaneStmt.TheBlock.{hidden-the_row-LaneStmt-0}
use Rattle.lane_ir.specs.declared.form.LaneStmt.TheVariants.{WhileAny}
use Rattle.item_ir.specs.declared.form.Val.{Val}
use Rattle.qpu_encode.specs.declared.form.BraCond.TheVariants.{AnyNz}
use Rattle.vop_ir.specs.declared.form.Exit.TheVariants.{Jump, Branch, Stop}
use Rattle.vop_ir.specs.declared.form.Vop.{Vop}
use Rattle.vop_ir.specs.declared.form.VopBlock.{VopBlock}
use Rattle.vop_ir.specs.Runs.{Block, vops, block_from}
use Rattle.vpm_dma_lower.specs.Accesses.{Code}
use Rattle.qpu_select.specs.declared.emitted.Emitted.{Emitted}
use Rattle.qpu_select.specs.Code.{Shape, Start, Piece, after, opened, body_at, around, then_row, nothing, asks, emit, emit_row, emit_all}
use Rattle.qpu_select.specs.Emitting.{start_of, Adds}

-- as many blocks as their meanings
count : (bs : List VopBlock) (cs : List (Block vops)) → map block_from bs ≡ cs → length bs ≡ length cs
count bs cs e = sym (length-map bs block_from) ∙ ap length e

-- one block more
pub one_more : (new old : List VopBlock) (x : Block vops) → map block_from new ≡ map block_from old ++ x ∷ [] → length new ≡ length old + 1
one_more new old x e =
    count new (map block_from old ++ x ∷ []) e
    ∙ length-append (map block_from old) (x ∷ [])
    ∙ ap (λ k. k + 1) (length-map old block_from)

-- the start after a piece
pub start_after : (q : Piece) (old new : Emitted) → Adds q old new → start_of new ≡ after (start_of old) q
start_after q old new h =
    let n : length new.closed.items ≡ length old.closed.items + length q.closed
    = count new.closed.items (map block_from old.closed.items ++ q.closed) h.closed
    ∙ length-append (map block_from old.closed.items) q.closed
    ∙ ap (λ k. k + length q.closed) (length-map old.closed.items block_from) in
    λ i. record { block = n i; ops = h.ops i; next = h.next i }

-- what is added by a piece, and then by another
pub joined_adds : (q : Piece) (p : Start → Piece) (old a new : Emitted) → Adds q old a → Adds (p (start_of a)) a new → Adds (then_row (start_of old) q p) old new
joined_adds q p old a new first second =
    let e : start_of a ≡ after (start_of old) q = start_after q old a first in
    let w : Adds (p (after (start_of old) q)) a new = subst (λ s. Adds (p s) a new) e second in
    record {
      closed = w.closed ∙ ap (λ xs. xs ++ (p (after (start_of old) q)).closed) first.closed ∙ append_assoc (map block_from old.closed.items) q.closed (p (after (start_of old) q)).closed;
      ops = w.ops;
      next = w.next;
    }

-- nothing is added
pub nothing_adds : (a : Emitted) → Adds (nothing (start_of a)) a a
nothing_adds a = record { closed = sym (append-nil (map block_from a.closed.items)); ops = refl; next = refl }

-- what is left adds what the whole does
pub record Rest (whole : Start → Piece) (old : Emitted) (left : Start → Piece) (now : Emitted) : Type 0 where
  pub closed : map block_from now.closed.items ++ (left (start_of now)).closed ≡ map block_from old.closed.items ++ (whole (start_of old)).closed
  pub ops : (left (start_of now)).ops ≡ (whole (start_of old)).ops
  pub next : (left (start_of now)).next ≡ (whole (start_of old)).next

-- one piece more
pub rest_goes : (whole : Start → Piece) (q left : Start → Piece) (old now new : Emitted)
    → Adds (q (start_of now)) now new → Rest whole old (λ s. then_row s (q s) left) now → Rest whole old left new
rest_goes whole p left old now new w r =
    let q : Piece = p (start_of now) in
    let e : start_of new ≡ after (start_of now) q = start_after q now new w in
    record {
      closed =
          (λ i. w.closed i ++ (left (e i)).closed)
          ∙ append_assoc (map block_from now.closed.items) q.closed (left (after (start_of now) q)).closed
          ∙ r.closed;
      ops = ap (λ t. (left t).ops) e ∙ r.ops;
      next = ap (λ t. (left t).next) e ∙ r.next;
    }

-- nothing is left
pub rest_ends : (whole : Start → Piece) (old now : Emitted) → Rest whole old nothing now → Adds (whole (start_of old)) old now
rest_ends whole old now r =
    record {
      closed = sym (append-nil (map block_from now.closed.items)) ∙ r.closed;
      ops = r.ops;
      next = r.next;
    }

-- where a new block is open
opened_start : (old a : Emitted) (x : Block vops) → map block_from a.closed.items ≡ map block_from old.closed.items ++ x ∷ [] → a.ops.items ≡ [] → a.next ≡ old.next
    → start_of a ≡ opened (start_of old)
opened_start old a x closed ops next =
    let n : length a.closed.items ≡ length old.closed.items + 1 = one_more a.closed.items old.closed.items x closed in
    λ i. record { block = n i; ops = ops i; next = next i }

-- the lists of a loop's blocks
in_order : {A : Type 0} (xs heads bodies : List A) (first hole test back : A) (n : ℕ) → n ≡ length ((xs ++ first ∷ []) ++ heads)
    → set (((((xs ++ first ∷ []) ++ heads) ++ hole ∷ []) ++ bodies) ++ back ∷ []) n test ≡ xs ++ (first ∷ (heads ++ (test ∷ (bodies ++ back ∷ []))))
in_order xs heads bodies first hole test back n e =
    let front = (xs ++ first ∷ []) ++ heads in
    let split : ((front ++ hole ∷ []) ++ bodies) ++ back ∷ [] ≡ front ++ hole ∷ (bodies ++ back ∷ [])
    = append_assoc (front ++ hole ∷ []) bodies (back ∷ []) ∙ append_assoc front (hole ∷ []) (bodies ++ back ∷ []) in
    ap (λ l. set l n test) split
    ∙ set_at front hole (bodies ++ back ∷ []) test n (sym e)
    ∙ append_assoc (xs ++ first ∷ []) heads (test ∷ (bodies ++ back ∷ []))
    ∙ append_assoc xs (first ∷ []) (heads ++ (test ∷ (bodies ++ back ∷ [])))

-- the steps of a loop: the head's first block is opened; the head; the test is set aside; the body; and the test is put into its place
pub record Looped (test : Vop) (holds : BraCond) (head body : Start → Piece) (old a b c d new : Emitted) (e at : ℕ) (aside : List Vop) : Type 0 where
  pub number : e ≡ length old.closed.items + 1
  pub opens : map block_from a.closed.items ≡ map block_from old.closed.items ++ record { ops = old.ops.items; exit = Jump e } ∷ []
  pub ops_a : a.ops.items ≡ []
  pub next_a : a.next ≡ old.next
  pub heads : Adds (head (start_of a)) a b
  pub place : at ≡ length b.closed.items
  pub tests : aside ≡ b.ops.items ++ test ∷ []
  pub holes : map block_from c.closed.items ≡ map block_from b.closed.items ++ record { ops = []; exit = Stop } ∷ []
  pub ops_c : c.ops.items ≡ []
  pub next_c : c.next ≡ b.next
  pub bodies : Adds (body (start_of c)) c d
  pub backs :
      map block_from new.closed.items
      ≡ set (map block_from d.closed.items ++ record { ops = d.ops.items; exit = Jump e } ∷ []) at (record { ops = aside; exit = Branch holds (at + 1) (length d.closed.items + 1) })
  pub ops_new : new.ops.items ≡ []
  pub next_new : new.next ≡ d.next

pub loop_adds : (test : Vop) (holds : BraCond) (head body : Start → Piece) (old a b c d new : Emitted) (e at : ℕ) (aside : List Vop)
    → Looped test holds head body old a b c d new e at aside → Adds (around (start_of old) test holds (head (opened (start_of old))) body) old new
loop_adds test holds head body old a b c d new e at aside r =
    let s : Start = start_of old in
    let h : Piece = head (opened s) in
    let q : Piece = body (body_at s h) in
    let xs : List (Block vops) = map block_from old.closed.items in
    let first : Block vops = record { ops = old.ops.items; exit = Jump (s.block + 1) } in
    let hole : Block vops = record { ops = []; exit = Stop } in
    let back : Block vops = record { ops = q.ops; exit = Jump (s.block + 1) } in
    let tested : Block vops = record { ops = h.ops ++ test ∷ []; exit = Branch holds (body_at s h).block ((body_at s h).block + length q.closed + 1) } in
    let at_a : start_of a ≡ opened s = opened_start old a (record { ops = old.ops.items; exit = Jump e }) r.opens r.ops_a r.next_a in
    let to_b : Adds h a b = subst (λ t. Adds (head t) a b) at_a r.heads in
    let at_b : start_of b ≡ after (opened s) h = start_after h a b to_b ∙ ap (λ t. after t h) at_a in
    let at_c : start_of c ≡ body_at s h = opened_start b c hole r.holes r.ops_c r.next_c ∙ ap opened at_b in
    let to_d : Adds q c d = subst (λ t. Adds (body t) c d) at_c r.bodies in
    let at_d : start_of d ≡ after (body_at s h) q = start_after q c d to_d ∙ ap (λ t. after t q) at_c in
    let opens : map block_from a.closed.items ≡ xs ++ first ∷ [] = r.opens ∙ (λ i. xs ++ record { ops = old.ops.items; exit = Jump (r.number i) } ∷ []) in
    let upto_b : map block_from b.closed.items ≡ (xs ++ first ∷ []) ++ h.closed = to_b.closed ∙ ap (λ l. l ++ h.closed) opens in
    let upto_d : map block_from d.closed.items ≡ (((xs ++ first ∷ []) ++ h.closed) ++ hole ∷ []) ++ q.closed
    = to_d.closed ∙ ap (λ l. l ++ q.closed) (r.holes ∙ ap (λ l. l ++ hole ∷ []) upto_b) in
    let hit : at + 1 ≡ (body_at s h).block = ap (λ k. k + 1) r.place ∙ ap (λ (t : Start). t.block + 1) at_b in
    let miss : length d.closed.items + 1 ≡ (body_at s h).block + length q.closed + 1 = ap (λ (t : Start). t.block + 1) at_d in
    let tests : aside ≡ h.ops ++ test ∷ [] = r.tests ∙ ap (λ o. o ++ test ∷ []) to_b.ops in
    let place : at ≡ length ((xs ++ first ∷ []) ++ h.closed) = r.place ∙ count b.closed.items ((xs ++ first ∷ []) ++ h.closed) upto_b in
    record {
      closed =
          r.backs
          ∙ (λ i. set (upto_d i ++ record { ops = to_d.ops i; exit = Jump (r.number i) } ∷ []) at (record { ops = tests i; exit = Branch holds (hit i) (miss i) }))
          ∙ in_order xs h.closed q.closed first hole tested back at place;
      ops = r.ops_new;
      next = r.next_new ∙ to_d.next;
    }

-- the code of a loop, said of the lists that it holds
module _ (h : Shape) (cs : List Code) where
  row_items : {k : _} (r : Row_of-LaneStmt k) (s : Start) → emit_row h cs r s ≡ emit_all h cs (items-the_row-LaneStmt k r) s
  row_items end_of-LaneStmt s = refl
  row_items (more_of-LaneStmt a rest) s = λ i. then_row s (emit h cs a s) (λ t. row_items rest t i)

  of_list : (l : List LaneStmt) (s : Start) → emit_row h cs (hidden-the_row-LaneStmt-0 l) s ≡ emit_all h cs l s
  of_list l s = row_items (hidden-the_row-LaneStmt-0 l) s ∙ ap (λ x. emit_all h cs x s) (items_hidden-the_row-LaneStmt-0 l)

  pub emit-WhileAny : (a : List LaneStmt) (m : Val) (b : List LaneStmt) (s : Start)
      → emit h cs (WhileAny a m b) s ≡ around s (asks m.0) AnyNz (emit_all h cs a (opened s)) (emit_all h cs b)
  emit-WhileAny a m b s = λ i. around s (asks m.0) AnyNz (of_list a (opened s) i) (λ t. of_list b t i)
