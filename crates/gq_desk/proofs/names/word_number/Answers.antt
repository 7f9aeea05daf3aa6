-- So many letters fit.
use Rattle.std.proofs.Common.{◌<◌, ◌≤◌, ◌^◌, length, drop, length-drop, arith}
use Rattle.gq_desk.specs.NameNumbers.{word_number}
use Rattle.gq_desk.proofs.WordNumbers.{word_number_fits}
use Rattle.gq_desk.proofs.names.word_number.Goals as goal

pub overflow_mul-number : goal.overflow_mul-number
overflow_mul-number c =
    let few : length (drop c.letters.place c.args.word.now) ≤ 15 = omega (arith, length-drop c.letters.place c.args.word.now) in
    let fits : word_number (drop c.letters.place c.args.word.now) < 32 ^ 15 = word_number_fits (drop c.letters.place c.args.word.now) 15 c.letters.invariant.letters few in
    omega arith

pub overflow_add-number : goal.overflow_add-number
overflow_add-number c =
    let few : length (drop c.letters.place c.args.word.now) ≤ 15 = omega (arith, length-drop c.letters.place c.args.word.now) in
    let fits : word_number (drop c.letters.place c.args.word.now) < 32 ^ 15 = word_number_fits (drop c.letters.place c.args.word.now) 15 c.letters.invariant.letters few in
    omega arith
