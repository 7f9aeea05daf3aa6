-- Sets that agree on the servers of the grid are chosen from alike.
use Rattle.std.proofs.Common.{◌≡◌, ℕ, zero, suc, ◌+◌, ◌*◌, ◌<◌, ◌≤◌, Bool, ◌&&◌, refl, ap₂, arith, Some, cond}
use Rattle.std.specs.List.{find, list_all, range_with_len}
use Rattle.std.proofs.Math.Nat.{mul-le-mul_right}
use Rattle.gq_grid.specs.Grid.{Grid, Servers, server_at, is_full_row, is_full_column, least_row, least_column, choose}

list_all_agree : (p q : ℕ → Bool) (a n : ℕ) → ((x : ℕ) → a ≤ x → x < a + n → p x ≡ q x) → list_all p (range_with_len a n) ≡ list_all q (range_with_len a n)
list_all_agree p q a zero same = refl
list_all_agree p q a (suc n) same =
    ap₂ (λ x y. x && y) (same a (omega arith) (omega arith)) (list_all_agree p q (a + 1) n (λ x low high. same x (omega arith) (omega arith)))

find_agree : (p q : ℕ → Bool) (a n : ℕ) → ((x : ℕ) → a ≤ x → x < a + n → p x ≡ q x) → find p (range_with_len a n) ≡ find q (range_with_len a n)
find_agree p q a zero same = refl
find_agree p q a (suc n) same =
    ap₂ (λ b o. cond b (Some a) o) (same a (omega arith) (omega arith)) (find_agree p q (a + 1) n (λ x low high. same x (omega arith) (omega arith)))

-- each place of the grid is a server of it
pub placed : (rows cols r c : ℕ) → r < rows → c < cols → r * cols + c < rows * cols
placed rows cols r c row col =
    let most : (r + 1) * cols ≤ rows * cols = mul-le-mul_right cols (omega arith) in
    let more : (r + 1) * cols ≡ r * cols + cols = omega arith in
    omega arith

pub least_row_agree : (grid : Grid) (f g : Servers) → ((s : ℕ) → s < grid.rows * grid.cols → f s ≡ g s) → least_row grid f ≡ least_row grid g
least_row_agree grid f g same =
    find_agree (is_full_row grid f) (is_full_row grid g) 0 grid.rows (λ r low row.
    list_all_agree (λ c. f (server_at grid r c)) (λ c. g (server_at grid r c)) 0 grid.cols (λ c low' col.
    same (server_at grid r c) (placed grid.rows grid.cols r c (omega arith) (omega arith))))

pub least_column_agree : (grid : Grid) (f g : Servers) → ((s : ℕ) → s < grid.rows * grid.cols → f s ≡ g s) → least_column grid f ≡ least_column grid g
least_column_agree grid f g same =
    find_agree (is_full_column grid f) (is_full_column grid g) 0 grid.cols (λ c low col.
    list_all_agree (λ r. f (server_at grid r c)) (λ r. g (server_at grid r c)) 0 grid.rows (λ r low' row.
    same (server_at grid r c) (placed grid.rows grid.cols r c (omega arith) (omega arith))))

pub choose_agree : (grid : Grid) (f g : Servers) → ((s : ℕ) → s < grid.rows * grid.cols → f s ≡ g s) → choose grid f ≡ choose grid g
choose_agree grid f g same = rw (least_row_agree grid f g same, least_column_agree grid f g same) refl
