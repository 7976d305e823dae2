-- Writes through a part of a row. Assumes nothing.
use Rattle.std.proofs.Common.{◌≡◌, ℕ, ◌+◌, ◌-◌, ◌<◌, ◌≤◌, List, ◌++◌, length, take, drop, set, sym, ap, ◌∙◌, arith}
use borrow.Rule.Slice.PartMut.{put_mid, post_of, put_same}
use Rattle.std.proofs.lemmas.List.{length-take-le, length-drop, length-set, set-append_left, set-append_right}

-- a write through a part is a write to the whole
put_set : (a k : ℕ) (xs ys : List ℕ) (i v : ℕ) → a ≤ length xs → i < length ys → put_mid a k xs (set ys i v) ≡ set (put_mid a k xs ys) (a + i) v
put_set a k xs ys i v h l =
    let back : a + i - a ≡ i = omega arith in
    ap (λ (t : List ℕ). take a xs ++ t) (sym (set-append_left ys (post_of a k xs) i v l))
    ∙ ap (λ (j : ℕ). take a xs ++ set (ys ++ post_of a k xs) j v) (sym back)
    ∙ sym (set-append_right (take a xs) (ys ++ post_of a k xs) a (a + i) v (length-take-le a xs h) (omega arith))

pub put_two : (a k : ℕ) (xs : List ℕ) (i j v w : ℕ) → a + k ≤ length xs → i < k → j < k
    → put_mid a k xs (set (set (take k (drop a xs)) i v) j w) ≡ set (set xs (a + i) v) (a + j) w
put_two a k xs i j v w h p q =
    let mid : List ℕ = take k (drop a xs) in
    let long : length mid ≡ k = length-take-le k (drop a xs) (omega (arith, length-drop a xs)) in
    put_set a k xs (set mid i v) j w (omega arith) (omega (arith, length-set mid i v))
    ∙ ap (λ (t : List ℕ). set t (a + j) w) (put_set a k xs mid i v (omega arith) (omega arith))
    ∙ ap (λ (t : List ℕ). set (set t (a + i) v) (a + j) w) (put_same a k xs)
