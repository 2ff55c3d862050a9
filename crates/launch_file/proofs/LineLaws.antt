-- A line has one text, and a text is that of one line at most.
use Rattle.std.proofs.Common.{◌≡◌, ◌≢◌, ℕ, ◌≤◌, ◌<◌, ◌^◌, Bool, true, false, cond, List, [], ◌∷◌, ◌++◌, length, Option, Some, None, sym, refl, ap, ◌∙◌, subst, arith}
use Rattle.std.specs.Prelude.{option_map, map, bytes_eq, codes, decimal}
use Rattle.std.proofs.lemmas.Option.{same_Some, none-some}
use Rattle.launch_file.proofs.Options.{said, nothing, mapped, pick}
use Rattle.std.proofs.lemmas.Slice.Eq.{bytes_eq-Decides}
use Rattle.launch_file.specs.LineText.{Line, FirstLine, QpusLine, GlobalLine, LocalLine, BufferIs, ArgValue, ArgBuffer, RoundsLine, SeedLine, FileLine, IsProper, AreNumbers, line_words, two_words, two_sizes, three_sizes, argument_of, rounds_of, buffer_of, seed_of, listed_of, schedule_of, three_words, four_words, line_of, line_text, line_from}
use Rattle.launch_file.specs.Words.{number_of, file_of, name_of}
use Rattle.launch_file.proofs.Numbers.{number_of-some}
use Rattle.launch_file.proofs.WordLaws.{value_of-some, name_of-some, file_of-some}
use Rattle.std.specs.List.{join_with_byte}
use Rattle.std.proofs.lemmas.List.Splits.{join_with_byte-slice_split}

-- no line has more than four words
pub too_many : (words : List (List ℕ)) → 5 ≤ length words → line_from words ≡ None
too_many [] h = refl
too_many (a ∷ []) h = refl
too_many (a ∷ b ∷ []) h = absurd (omega arith)
too_many (a ∷ b ∷ c ∷ []) h = absurd (omega arith)
too_many (a ∷ b ∷ c ∷ d ∷ []) h = absurd (omega arith)
too_many (a ∷ b ∷ c ∷ d ∷ e ∷ words) h = refl

-- these are the words of the line, and its numbers and names are proper
pub record Says (words : List (List ℕ)) (line : Line) : Type 0 where
  pub spelled : line_words line ≡ words
  pub proper : IsProper line

is : (xs ys : List ℕ) → bytes_eq xs ys ≡ true → ys ≡ xs
is xs ys e = sym ((bytes_eq-Decides xs ys).0 e)

one_size : (n : ℕ) → n < 2 ^ 64 → AreNumbers (n ∷ [])
one_size n h = record { some = omega arith; few = omega arith; each = (h, tt) }

two_words_says : (key word : List ℕ) (l : Line) → two_words key word ≡ Some l → Says (key ∷ word ∷ []) l
unfolding two_words
two_words_says key word =
    let P = Says (key ∷ word ∷ []) in
    pick P _ _ _ (λ k. pick P _ _ _ (λ w. said P FirstLine (let a = is key (codes "launch") k in let b = is word (codes "1") w in record { spelled = cc; proper = tt })) (nothing P))
    (pick P _ _ _ (λ k. mapped P QpusLine _ (λ n e. let num = number_of-some word n e in let a = is key (codes "qpus") k in record { spelled = cc; proper = num.0 }))
    (pick P _ _ _ (λ k. mapped P (λ x. GlobalLine (x ∷ [])) _ (λ n e. let num = number_of-some word n e in let a = is key (codes "global") k in record { spelled = cc; proper = one_size n num.0 }))
    (pick P _ _ _ (λ k. mapped P (λ x. LocalLine (x ∷ [])) _ (λ n e. let num = number_of-some word n e in let a = is key (codes "local") k in record { spelled = cc; proper = one_size n num.0 })) (nothing P))))

two_sizes_says : (one two sizes : List ℕ) → two_sizes (number_of one) (number_of two) ≡ Some sizes → (map decimal sizes ≡ one ∷ two ∷ []) × AreNumbers sizes
two_sizes_says one two sizes e = by_cases (number_of one) (number_of two) refl refl e
  where
    by_cases : (x y : Option ℕ) → number_of one ≡ x → number_of two ≡ y → two_sizes x y ≡ Some sizes → (map decimal sizes ≡ one ∷ two ∷ []) × AreNumbers sizes
    by_cases (Some x) (Some y) p q h =
        let a = number_of-some one x p in
        let b = number_of-some two y q in
        subst (λ (s : List ℕ). (map decimal s ≡ one ∷ two ∷ []) × AreNumbers s) (same_Some (x ∷ y ∷ []) sizes h)
        (cc (sym a.1, sym b.1), record { some = omega arith; few = omega arith; each = (a.0, (b.0, tt)) })
    by_cases (Some x) None p q h = absurd (none-some sizes h)
    by_cases None y p q h = absurd (none-some sizes h)

three_sizes_says : (one two three sizes : List ℕ) → three_sizes (number_of one) (number_of two) (number_of three) ≡ Some sizes → (map decimal sizes ≡ one ∷ two ∷ three ∷ []) × AreNumbers sizes
three_sizes_says one two three sizes e = by_cases (number_of one) (number_of two) (number_of three) refl refl refl e
  where
    by_cases : (x y z : Option ℕ) → number_of one ≡ x → number_of two ≡ y → number_of three ≡ z → three_sizes x y z ≡ Some sizes → (map decimal sizes ≡ one ∷ two ∷ three ∷ []) × AreNumbers sizes
    by_cases (Some x) (Some y) (Some z) p q r h =
        let a = number_of-some one x p in
        let b = number_of-some two y q in
        let c = number_of-some three z r in
        subst (λ (s : List ℕ). (map decimal s ≡ one ∷ two ∷ three ∷ []) × AreNumbers s) (same_Some (x ∷ y ∷ z ∷ []) sizes h)
        (cc (sym a.1, sym b.1, sym c.1), record { some = omega arith; few = omega arith; each = (a.0, (b.0, (c.0, tt))) })
    by_cases (Some x) (Some y) None p q r h = absurd (none-some sizes h)
    by_cases (Some x) None z p q r h = absurd (none-some sizes h)
    by_cases None y z p q r h = absurd (none-some sizes h)

argument_says : (kind word : List ℕ) (l : Line) → argument_of kind word ≡ Some l → Says (codes "arg" ∷ kind ∷ word ∷ []) l
unfolding argument_of
argument_says kind word =
    let P = Says (codes "arg" ∷ kind ∷ word ∷ []) in
    pick P _ _ _ (λ k. mapped P ArgValue _ (λ n e. let num = value_of-some word n e in let a = is kind (codes "value") k in record { spelled = cc; proper = num.0 }))
    (pick P _ _ _ (λ k. mapped P ArgBuffer _ (λ n e. let num = number_of-some word n e in let a = is kind (codes "buffer") k in record { spelled = cc; proper = num.0 })) (nothing P))

rounds_says : (kind word : List ℕ) (l : Line) → rounds_of kind word ≡ Some l → Says (codes "schedule" ∷ kind ∷ word ∷ []) l
unfolding rounds_of
rounds_says kind word =
    let P = Says (codes "schedule" ∷ kind ∷ word ∷ []) in
    pick P _ _ _ (λ k. mapped P RoundsLine _ (λ n e. let num = number_of-some word n e in let a = is kind (codes "rr") k in record { spelled = cc; proper = num.0 })) (nothing P)

-- the same words, spelled otherwise
says_again : (xs ys : List (List ℕ)) (l : Line) → xs ≡ ys → Says xs l → Says ys l
says_again xs ys l e s = subst (λ (ws : List (List ℕ)). Says ws l) e s

three_words_says : (key one two : List ℕ) (l : Line) → three_words key one two ≡ Some l → Says (key ∷ one ∷ two ∷ []) l
unfolding three_words
three_words_says key one two =
    let P = Says (key ∷ one ∷ two ∷ []) in
    pick P _ _ _ (λ k. mapped P GlobalLine _ (λ n e. let nums = two_sizes_says one two n e in let a = is key (codes "global") k in let b = nums.0 in record { spelled = cc; proper = nums.1 }))
    (pick P _ _ _ (λ k. mapped P LocalLine _ (λ n e. let nums = two_sizes_says one two n e in let a = is key (codes "local") k in let b = nums.0 in record { spelled = cc; proper = nums.1 }))
    (pick P _ _ _ (λ k l e. says_again (codes "arg" ∷ one ∷ two ∷ []) _ l (let a = is key (codes "arg") k in cc) (argument_says one two l e))
    (pick P _ _ _ (λ k l e. says_again (codes "schedule" ∷ one ∷ two ∷ []) _ l (let a = is key (codes "schedule") k in cc) (rounds_says one two l e)) (nothing P))))

buffer_says : (one two three : List ℕ) (l : Line) → buffer_of (number_of one) (file_of two) (file_of three) ≡ Some l → Says (codes "buffer" ∷ one ∷ two ∷ three ∷ []) l
buffer_says one two three l e = by_cases (number_of one) (file_of two) (file_of three) refl refl refl e
  where
    by_cases : (x : Option ℕ) (y z : Option (Option (List ℕ))) → number_of one ≡ x → file_of two ≡ y → file_of three ≡ z → buffer_of x y z ≡ Some l → Says (codes "buffer" ∷ one ∷ two ∷ three ∷ []) l
    by_cases (Some x) (Some y) (Some z) p q r h =
        let a = number_of-some one x p in
        let b = file_of-some two y q in
        let c = file_of-some three z r in
        said (Says (codes "buffer" ∷ one ∷ two ∷ three ∷ [])) (BufferIs x y z) (record { spelled = cc (sym a.1, b.0, c.0); proper = (a.0, b.1, c.1) }) l h
    by_cases (Some x) (Some y) None p q r h = absurd (none-some l h)
    by_cases (Some x) None z p q r h = absurd (none-some l h)
    by_cases None y z p q r h = absurd (none-some l h)

seed_says : (one two : List ℕ) (l : Line) → seed_of (number_of one) (number_of two) ≡ Some l → Says (codes "schedule" ∷ codes "seed" ∷ one ∷ two ∷ []) l
seed_says one two l e = by_cases (number_of one) (number_of two) refl refl e
  where
    by_cases : (x y : Option ℕ) → number_of one ≡ x → number_of two ≡ y → seed_of x y ≡ Some l → Says (codes "schedule" ∷ codes "seed" ∷ one ∷ two ∷ []) l
    by_cases (Some x) (Some y) p q h =
        let a = number_of-some one x p in
        let b = number_of-some two y q in
        said (Says (codes "schedule" ∷ codes "seed" ∷ one ∷ two ∷ [])) (SeedLine x y) (record { spelled = cc (sym a.1, sym b.1); proper = (a.0, b.0) }) l h
    by_cases (Some x) None p q h = absurd (none-some l h)
    by_cases None y p q h = absurd (none-some l h)

listed_says : (one two : List ℕ) (l : Line) → listed_of (name_of one) (number_of two) ≡ Some l → Says (codes "schedule" ∷ codes "file" ∷ one ∷ two ∷ []) l
listed_says one two l e = by_cases (name_of one) (number_of two) refl refl e
  where
    by_cases : (x : Option (List ℕ)) (y : Option ℕ) → name_of one ≡ x → number_of two ≡ y → listed_of x y ≡ Some l → Says (codes "schedule" ∷ codes "file" ∷ one ∷ two ∷ []) l
    by_cases (Some x) (Some y) p q h =
        let a = name_of-some one x p in
        let b = number_of-some two y q in
        said (Says (codes "schedule" ∷ codes "file" ∷ one ∷ two ∷ [])) (FileLine x y) (record { spelled = cc (a.0, sym b.1); proper = (a.1, b.0) }) l h
    by_cases (Some x) None p q h = absurd (none-some l h)
    by_cases None y p q h = absurd (none-some l h)

schedule_says : (kind one two : List ℕ) (l : Line) → schedule_of kind one two ≡ Some l → Says (codes "schedule" ∷ kind ∷ one ∷ two ∷ []) l
unfolding schedule_of
schedule_says kind one two =
    let P = Says (codes "schedule" ∷ kind ∷ one ∷ two ∷ []) in
    pick P _ _ _ (λ k l e. says_again (codes "schedule" ∷ codes "seed" ∷ one ∷ two ∷ []) _ l (let a = is kind (codes "seed") k in cc) (seed_says one two l e))
    (pick P _ _ _ (λ k l e. says_again (codes "schedule" ∷ codes "file" ∷ one ∷ two ∷ []) _ l (let a = is kind (codes "file") k in cc) (listed_says one two l e)) (nothing P))

four_words_says : (key one two three : List ℕ) (l : Line) → four_words key one two three ≡ Some l → Says (key ∷ one ∷ two ∷ three ∷ []) l
unfolding four_words
four_words_says key one two three =
    let P = Says (key ∷ one ∷ two ∷ three ∷ []) in
    pick P _ _ _ (λ k. mapped P GlobalLine _ (λ n e. let nums = three_sizes_says one two three n e in let a = is key (codes "global") k in let b = nums.0 in record { spelled = cc; proper = nums.1 }))
    (pick P _ _ _ (λ k. mapped P LocalLine _ (λ n e. let nums = three_sizes_says one two three n e in let a = is key (codes "local") k in let b = nums.0 in record { spelled = cc; proper = nums.1 }))
    (pick P _ _ _ (λ k l e. says_again (codes "buffer" ∷ one ∷ two ∷ three ∷ []) _ l (let a = is key (codes "buffer") k in cc) (buffer_says one two three l e))
    (pick P _ _ _ (λ k l e. says_again (codes "schedule" ∷ one ∷ two ∷ three ∷ []) _ l (let a = is key (codes "schedule") k in cc) (schedule_says one two three l e)) (nothing P))))

line_from_says : (words : List (List ℕ)) (l : Line) → line_from words ≡ Some l → Says words l
line_from_says [] l e = absurd (none-some l e)
line_from_says (a ∷ []) l e = absurd (none-some l e)
line_from_says (a ∷ b ∷ []) l e = two_words_says a b l e
line_from_says (a ∷ b ∷ c ∷ []) l e = three_words_says a b c l e
line_from_says (a ∷ b ∷ c ∷ d ∷ []) l e = four_words_says a b c d l e
line_from_says (a ∷ b ∷ c ∷ d ∷ e ∷ words) l h = absurd (none-some l h)

-- a line that is read is proper, and has this text
pub line_of-some : (bytes : List ℕ) (line : Line) → line_of bytes ≡ Some line → (bytes ≡ line_text line) × IsProper line
unfolding line_of line_text
line_of-some bytes line e =
    let s = line_from_says _ line e in
    (sym (ap (join_with_byte 32) s.spelled ∙ join_with_byte-slice_split 32 bytes), s.proper)
