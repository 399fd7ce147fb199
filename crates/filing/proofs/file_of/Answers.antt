use Rattle.filing.specs.Whole.{body_of, ports_of, rest_of}
use Rattle.layout.specs.Filling.{stored}
use Rattle.writing.specs.Cells.{quad_of}
use Rattle.writing.specs.Wrote.{wrote-both}
use Rattle.std.proofs.Common.{rules, sym, ap, ◌∙◌, ◌-◌, ◌%◌}
use Rattle.filing.proofs.file_of.Goals as goal

pub returns : goal.returns
unfolding body_of ports_of rest_of
returns c =
    let body = wrote-both c.put_ports.ensures (wrote-both c.tasks.ensures c.put_rest.ensures) in
    let same_buffer = sym (c.quad.ensures.same_buffer ∙ body.same_buffer) in
    let sized = c.quad.ensures.puts.is ∙ ap (λ b. stored b 0 (quad_of ((c.put_rest.new.out.at - 4) % 4294967296))) body.puts.is in
    record {
      is = search (rules, same_buffer, sized);
      goes = body.puts.goes;
    }
