-- What the list says in all is what is left of it, where its points so far are set.
use Rattle.std.proofs.Common.{◌≡◌, ◌≤◌, ◌-◌}
use Rattle.cube.specs.Cube.{size}
use Rattle.point_list.specs.PointList.{points_from, point_list, mark_drawn}
use Rattle.file_reader.specs.Reader.{left}
use Rattle.file_reader.proofs.reader.Reader.draw_list.Given as goal

abbrev pub invariant-loop : goal.invariant-loop
invariant-loop l = record {
  src : l.reader.src ≡ l.fn.self.src;
  inside : l.prev ≤ l.size;
  same : mark_drawn l.fn.out (point_list (size l.n) (left l.fn.self)) ≡ mark_drawn l.out (points_from l.size (l.count - l.counter) l.prev l.least (left l.reader));
}
