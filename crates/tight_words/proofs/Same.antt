-- What the tests of sources and meanings say.
use Rattle.std.specs.Prelude.{◌≡◌, ℕ, Bool, true, false, ◌&&◌, ◌==◌, refl}
use Rattle.std.specs.declared.option.Option.{Option}
use Rattle.std.specs.declared.option.Option.TheVariants.{Some, None}
use Rattle.std.proofs.Common.{arith, sym, ap, ◌∙◌}
use Rattle.std.proofs.lemmas.Bool.Decides.{nat_tests}
use Rattle.qpu_encode.specs.declared.form.AddOp.{AddOp}
use Rattle.qpu_encode.specs.declared.form.MulOp.{MulOp}
use Rattle.qpu_encode.specs.declared.form.Cond.{Cond}
use Rattle.qpu_encode.specs.Codes.{add_code, mul_code, cond_code, add_op_at, mul_op_at, cond_at}
use Rattle.qpu_encode.proofs.RoundTrip.{add_again, mul_again, cond_again}
use Rattle.tight_words.specs.declared.meaning.Source.{Source}
use Rattle.tight_words.specs.declared.meaning.Source.TheVariants.{Acc, Five, FileA, FileB, Element, Qpu, Uniform, Row, Constant}
use Rattle.tight_words.specs.declared.meaning.AddAct.{AddAct}
use Rattle.tight_words.specs.declared.meaning.MulAct.{MulAct}
use Rattle.tight_words.specs.declared.meaning.Reads.{Reads}
use Rattle.tight_words.specs.declared.meaning.Meaning.{Meaning}
use Rattle.tight_words.specs.Meaning.{same, same_bool, same_add, same_mul, same_reads, same_meaning}

pub parts : (a b : Bool) → (a && b) ≡ true → (a ≡ true) × (b ≡ true)
parts true b h = (refl, h)
parts false b h = absurd (cc)

pub eq_is : (m n : ℕ) → (m == n) ≡ true → m ≡ n
eq_is m n h = grind (arith, nat_tests)

pub eq_self : (n : ℕ) → (n == n) ≡ true
eq_self n = grind (arith, nat_tests)

some_is : {A : Type 0} (x y d : A) → Some x ≡ Some y → x ≡ y
some_is {A} x y d h = ap (λ (o : Option A). elim o [ Some z ↦ z | None ↦ d ]) h

pub same_is : (s t : Source) → same s t ≡ true → s ≡ t
same_is (Acc m) (Acc n) h = ap (λ k. Acc k) (eq_is m n h)
same_is Five Five h = refl
same_is (FileA m) (FileA n) h = ap (λ k. FileA k) (eq_is m n h)
same_is (FileB m) (FileB n) h = ap (λ k. FileB k) (eq_is m n h)
same_is Element Element h = refl
same_is Qpu Qpu h = refl
same_is Uniform Uniform h = refl
same_is Row Row h = refl
same_is (Constant m) (Constant n) h = ap (λ k. Constant k) (eq_is m n h)
same_is _ _ h = absurd (cc)

pub same_self : (s : Source) → same s s ≡ true
same_self (Acc m) = eq_self m
same_self Five = refl
same_self (FileA m) = eq_self m
same_self (FileB m) = eq_self m
same_self Element = refl
same_self Qpu = refl
same_self Uniform = refl
same_self Row = refl
same_self (Constant m) = eq_self m

pub bool_is : (a b : Bool) → same_bool a b ≡ true → a ≡ b
bool_is true true h = refl
bool_is true false h = absurd (cc)
bool_is false true h = absurd (cc)
bool_is false false h = refl

pub bool_self : (a : Bool) → same_bool a a ≡ true
bool_self true = refl
bool_self false = refl

add_op_is : (p q : AddOp) → (add_code p == add_code q) ≡ true → p ≡ q
add_op_is p q h = some_is p q p (sym (add_again p) ∙ ap (λ n. add_op_at n) (eq_is (add_code p) (add_code q) h) ∙ add_again q)

mul_op_is : (p q : MulOp) → (mul_code p == mul_code q) ≡ true → p ≡ q
mul_op_is p q h = some_is p q p (sym (mul_again p) ∙ ap (λ n. mul_op_at n) (eq_is (mul_code p) (mul_code q) h) ∙ mul_again q)

cond_is : (p q : Cond) → (cond_code p == cond_code q) ≡ true → p ≡ q
cond_is p q h = some_is p q p (sym (cond_again p) ∙ ap (λ n. cond_at n) (eq_is (cond_code p) (cond_code q) h) ∙ cond_again q)

add_is : (x y : AddAct) → same_add x y ≡ true → x ≡ y
add_is x y h =
    let all = parts (((add_code x.op == add_code y.op) && (x.unpack == y.unpack)) && ((cond_code x.cond == cond_code y.cond) && (x.dst == y.dst))) (same_bool x.side y.side && (same x.a y.a && same x.b y.b)) h in
    let left = parts ((add_code x.op == add_code y.op) && (x.unpack == y.unpack)) ((cond_code x.cond == cond_code y.cond) && (x.dst == y.dst)) all.0 in
    let first = parts (add_code x.op == add_code y.op) (x.unpack == y.unpack) left.0 in
    let second = parts (cond_code x.cond == cond_code y.cond) (x.dst == y.dst) left.1 in
    let third = parts (same_bool x.side y.side) (same x.a y.a && same x.b y.b) all.1 in
    let fourth = parts (same x.a y.a) (same x.b y.b) third.1 in
    let op : x.op ≡ y.op = add_op_is x.op y.op first.0 in
    let unpack : x.unpack ≡ y.unpack = eq_is x.unpack y.unpack first.1 in
    let cond : x.cond ≡ y.cond = cond_is x.cond y.cond second.0 in
    let dst : x.dst ≡ y.dst = eq_is x.dst y.dst second.1 in
    let side : x.side ≡ y.side = bool_is x.side y.side third.0 in
    let a : x.a ≡ y.a = same_is x.a y.a fourth.0 in
    let b : x.b ≡ y.b = same_is x.b y.b fourth.1 in
    λ i. record { op = op i; unpack = unpack i; cond = cond i; dst = dst i; side = side i; a = a i; b = b i }

mul_is : (x y : MulAct) → same_mul x y ≡ true → x ≡ y
mul_is x y h =
    let all = parts (((mul_code x.op == mul_code y.op) && (x.turn == y.turn)) && ((cond_code x.cond == cond_code y.cond) && (x.dst == y.dst))) (same_bool x.side y.side && (same x.a y.a && same x.b y.b)) h in
    let left = parts ((mul_code x.op == mul_code y.op) && (x.turn == y.turn)) ((cond_code x.cond == cond_code y.cond) && (x.dst == y.dst)) all.0 in
    let first = parts (mul_code x.op == mul_code y.op) (x.turn == y.turn) left.0 in
    let second = parts (cond_code x.cond == cond_code y.cond) (x.dst == y.dst) left.1 in
    let third = parts (same_bool x.side y.side) (same x.a y.a && same x.b y.b) all.1 in
    let fourth = parts (same x.a y.a) (same x.b y.b) third.1 in
    let op : x.op ≡ y.op = mul_op_is x.op y.op first.0 in
    let turn : x.turn ≡ y.turn = eq_is x.turn y.turn first.1 in
    let cond : x.cond ≡ y.cond = cond_is x.cond y.cond second.0 in
    let dst : x.dst ≡ y.dst = eq_is x.dst y.dst second.1 in
    let side : x.side ≡ y.side = bool_is x.side y.side third.0 in
    let a : x.a ≡ y.a = same_is x.a y.a fourth.0 in
    let b : x.b ≡ y.b = same_is x.b y.b fourth.1 in
    λ i. record { op = op i; turn = turn i; cond = cond i; dst = dst i; side = side i; a = a i; b = b i }

reads_is : (x y : Reads) → same_reads x y ≡ true → x ≡ y
reads_is x y h =
    let all = parts ((x.uniform == y.uniform) && (x.row == y.row)) (((x.load_wait == y.load_wait) && (x.store_wait == y.store_wait)) && (x.lock == y.lock)) h in
    let left = parts (x.uniform == y.uniform) (x.row == y.row) all.0 in
    let right = parts ((x.load_wait == y.load_wait) && (x.store_wait == y.store_wait)) (x.lock == y.lock) all.1 in
    let waits = parts (x.load_wait == y.load_wait) (x.store_wait == y.store_wait) right.0 in
    let uniform : x.uniform ≡ y.uniform = eq_is x.uniform y.uniform left.0 in
    let row : x.row ≡ y.row = eq_is x.row y.row left.1 in
    let load_wait : x.load_wait ≡ y.load_wait = eq_is x.load_wait y.load_wait waits.0 in
    let store_wait : x.store_wait ≡ y.store_wait = eq_is x.store_wait y.store_wait waits.1 in
    let lock : x.lock ≡ y.lock = eq_is x.lock y.lock right.1 in
    λ i. record { uniform = uniform i; row = row i; load_wait = load_wait i; store_wait = store_wait i; lock = lock i }

pub meaning_is : (x y : Meaning) → same_meaning x y ≡ true → x ≡ y
meaning_is x y h =
    let all = parts (same_reads x.reads y.reads && same_bool x.flags y.flags) (same_add x.add y.add && same_mul x.mul y.mul) h in
    let left = parts (same_reads x.reads y.reads) (same_bool x.flags y.flags) all.0 in
    let right = parts (same_add x.add y.add) (same_mul x.mul y.mul) all.1 in
    let reads : x.reads ≡ y.reads = reads_is x.reads y.reads left.0 in
    let flags : x.flags ≡ y.flags = bool_is x.flags y.flags left.1 in
    let add : x.add ≡ y.add = add_is x.add y.add right.0 in
    let mul : x.mul ≡ y.mul = mul_is x.mul y.mul right.1 in
    λ i. record { add = add i; mul = mul i; flags = flags i; reads = reads i }

pub meaning_self : (m : Meaning) → same_meaning m m ≡ true
meaning_self m =
    rw (
      eq_self m.reads.uniform,
      eq_self m.reads.row,
      eq_self m.reads.load_wait,
      eq_self m.reads.store_wait,
      eq_self m.reads.lock,
      bool_self m.flags,
      eq_self (add_code m.add.op),
      eq_self m.add.unpack,
      eq_self (cond_code m.add.cond),
      eq_self m.add.dst,
      bool_self m.add.side,
      same_self m.add.a,
      same_self m.add.b,
      eq_self (mul_code m.mul.op),
      eq_self m.mul.turn,
      eq_self (cond_code m.mul.cond),
      eq_self m.mul.dst,
      bool_self m.mul.side,
      same_self m.mul.a,
      same_self m.mul.b,
    ) refl
