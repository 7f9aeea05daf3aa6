-- One block more of a content that is written into blocks from its end, or read out of them from its start.
use Rattle.std.proofs.Common.{◌≡◌, ℕ, ◌+◌, ◌-◌, ◌<◌, ◌≤◌, suc, List, [], ◌∷◌, ◌++◌, length, map, take, drop, min, get_or, refl, sym, ap, ◌∙◌, add-one, append_assoc, append-nil, length-take, arith}
use Rattle.std.proofs.Math.Seq.{drop-cons}
use Rattle.std.proofs.lemmas.List.{drop_min, drop-drop, length-drop, take-append-drop}
use Rattle.std.proofs.lemmas.Slice.{take-put_mid}
use Rattle.std.proofs.Math.Seq.{take-length}
use borrow.Rule.Slice.PartMut.{put_mid}
use denote.RawPtr.{Ptr, null_ptr}
use Rattle.gq_pool.specs.Linked.{first_bytes, bytes_at}
use Rattle.gq_tag.specs.declared.TheConstants.{BLOCK_BYTES}
use Rattle.gq_pool.specs.Blocks.{content_of}

pub content_of-zero : (bs : List (List ℕ)) → content_of 0 bs ≡ []
content_of-zero [] = refl
content_of-zero (b ∷ bs) = content_of-zero bs

pub fill_step : (bytes b : List ℕ) (bs : List (List ℕ)) (s m : ℕ) → m ≡ s + BLOCK_BYTES → take (min (length bytes - s) BLOCK_BYTES) b ≡ take (min (length bytes - s) BLOCK_BYTES) (drop s bytes) → content_of (length bytes - m) bs ≡ drop m bytes
    → content_of (length bytes - s) (b ∷ bs) ≡ drop s bytes
fill_step bytes b bs s m e h k =
    let n : ℕ = min (length bytes - s) BLOCK_BYTES in
    let fewer : length bytes - s - BLOCK_BYTES ≡ length bytes - m = omega arith in
    let same : n ≡ min BLOCK_BYTES (length (drop s bytes)) = omega (arith, length-drop s bytes) in
    let after : drop n (drop s bytes) ≡ drop m bytes = ap (λ x. drop x (drop s bytes)) same ∙ (drop_min BLOCK_BYTES (drop s bytes) ∙ (drop-drop BLOCK_BYTES s bytes ∙ ap (λ x. drop x bytes) (sym e))) in
    (λ i. h i ++ content_of (fewer i) bs) ∙ (ap (λ x. take n (drop s bytes) ++ x) (k ∙ sym after) ∙ take-append-drop n (drop s bytes))

pub read_step : (ns : List (Ptr × List ℕ)) (out part : List ℕ) (i len s e : ℕ) (whole : List ℕ) → i < length ns → e ≡ min len (s + BLOCK_BYTES) → s < len → length out ≡ len → length part ≡ e - s → part ≡ take (e - s) (bytes_at i ns)
    → take s out ++ content_of (len - s) (map (λ n. n.1) (drop i ns)) ≡ whole → take e (put_mid s (e - s) out part) ++ content_of (len - e) (map (λ n. n.1) (drop (i + 1) ns)) ≡ whole
read_step ns out part i len s e whole h he lt ho hp same k =
    let n : Ptr × List ℕ = get_or ns i (null_ptr, []) in let f : Ptr × List ℕ → List ℕ = λ x. x.1 in
    let cut : drop i ns ≡ n ∷ drop (suc i) ns = drop-cons ns i (null_ptr, []) h in
    let from_cut : take s out ++ content_of (len - s) (map f (n ∷ drop (suc i) ns)) ≡ whole = ap (λ x. take s out ++ content_of (len - s) (map f x)) (sym cut) ∙ k in
    let shorter : e - s ≡ min (len - s) BLOCK_BYTES = omega arith in let fewer : len - e ≡ len - s - BLOCK_BYTES = omega arith in
    let all : part ≡ take (min (len - s) BLOCK_BYTES) n.1 = same ∙ (λ j. take (shorter j) (first_bytes (cut j))) in
    let put : take e (put_mid s (e - s) out part) ≡ take s out ++ part = take-put_mid s (e - s) out part e (omega arith) (omega arith) in
    (λ j. put j ++ content_of (fewer j) (map f (drop (add-one i j) ns))) ∙ ((λ j. (take s out ++ all j) ++ content_of (len - s - BLOCK_BYTES) (map f (drop (suc i) ns))) ∙ (append_assoc (take s out) _ _ ∙ from_cut))

pub fill_part : (bytes block : List ℕ) (s n m : ℕ) → n ≡ m → m ≤ length bytes - s → take (length (take m (drop s bytes))) block ≡ take m (drop s bytes) → take n block ≡ take n (drop s bytes)
fill_part bytes block s n m e fits written =
    let long : length (take m (drop s bytes)) ≡ n = omega (arith, length-take m (drop s bytes), length-drop s bytes) in
    ap (λ k. take k block) (sym long) ∙ (written ∙ ap (λ k. take k (drop s bytes)) (sym e))

pub read_end : (out : List ℕ) (bs : List (List ℕ)) (len s : ℕ) (whole : List ℕ) → length out ≡ len → s ≡ len → take s out ++ content_of (len - s) bs ≡ whole → out ≡ whole
read_end out bs len s whole ho he k =
    let none : len - s ≡ 0 = omega arith in let long : s ≡ length out = omega arith in
    sym (ap (λ n. take n out) long ∙ take-length out) ∙ (sym (append-nil (take s out)) ∙ (ap (λ u. take s out ++ u) (sym (ap (λ n. content_of n bs) none ∙ content_of-zero bs)) ∙ k))
