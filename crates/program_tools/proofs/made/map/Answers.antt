use Rattle.std.proofs.Common.{◌≡◌, ℕ, ◌%◌, List, get_or, replicate, ap, ap₂, ◌∙◌}
use Rattle.octets.specs.Numbers.{bytes_of}
use Rattle.program_tools.specs.Made.{put_where}
use Rattle.program_tools.proofs.made.map.Goals as goal

-- a run written into a list, that are another list and another run by their equations
by_run : (s t left run other : List ℕ) → left ≡ put_where s 0 run → s ≡ t → run ≡ other → left ≡ put_where t 0 other
by_run s t left run other e f g = e ∙ ap₂ (λ x y. put_where x 0 y) f g

pub returns : goal.returns
returns c =
    by_run (replicate 4200 (get_or c.to_le_bytes.result 0 0)) (replicate 4200 (c.args.rest % 256)) _ _ (bytes_of 3 c.args.bits)
    c.put.ensures.bytes
    (ap (λ x. replicate 4200 (get_or x 0 0)) c.to_le_bytes.ensures)
    (c.bytes.ensures ∙ ap (bytes_of 3) c.from.ensures)
